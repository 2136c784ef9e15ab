-- What the rows of a proof say of each archive with the root before the answer is settled.
use Rattle.std.specs.Prelude.{◌≡◌, ◌⊎◌, ◌<◌, ◌≤◌, ◌+◌, ◌-◌, ◌==◌, ℕ, List, [], length, map, max, slice_index_or, if◌then◌else◌, IsSome}
use Rattle.std.specs.List.{All, fold, list_any, range_with_len}
use Rattle.ats_impact.specs.Rank.{times}
use Rattle.ats_impact.specs.Score.{score}
use Rattle.ats_impact.specs.declared.rank.Row.{Row}
use Rattle.ats_bound.specs.Cut.{threshold}
use Rattle.ats_bound.specs.Settled.{AreDistinct}
use Rattle.ats_commit.specs.Archive.{Archive}
use Rattle.ats_commit.specs.Own.{AreTexts}
use Rattle.ats_commit.specs.Root.{root_of}
use Rattle.ats_proof.specs.Value.{Proof}
use Rattle.ats_client.specs.Bracketing.{bounds_of}
use Rattle.ats_client.specs.Groups.{met_at}
use Rattle.ats_client.specs.Headline.{HoldsRow}
use Rattle.ats_client.specs.Presented.{lanes_of}
use Rattle.ats_client.specs.Rows.{rows_of}
use Rattle.ats_client.specs.Strings.{proof_collision}

-- the upper end of the bracket of the met document at this place, or 0 if a row names the document
abbrev pub upper_outside : List (List ℕ × ℕ) → Proof → ℕ → ℕ
upper_outside query proof i =
    if list_any (λ index. index == i) proof.answer then 0 else (bounds_of proof (lanes_of query proof) (met_at proof.met i)).hi

-- The rest of a proof: the most that a document can score that no row names. It is the greatest of the threshold and of
-- the upper ends of the met documents that no row names.
abbrev pub rest_of : List (List ℕ × ℕ) → Proof → ℕ
rest_of query proof = fold max (threshold (lanes_of query proof)) (map (upper_outside query proof) (range_with_len 0 (length proof.met)))

-- the documents of the rows
abbrev pub row_documents : List Row → List ℕ
row_documents rows = map (λ (row : Row). row.doc) rows

-- The rows are of distinct documents that score above 0, and each row's bounds enclose the score of its document. No
-- other document scores more than the rest.
pub record AreBounded (texts : List (List ℕ)) (query : List (List ℕ × ℕ)) (rows : List Row) (rest : ℕ) : Type 0 where
  pub once : AreDistinct (row_documents rows)
  pub scoring : All (λ doc. (doc < length texts) × (0 < score texts query (slice_index_or texts doc []))) (row_documents rows)
  pub bounds : All (HoldsRow texts query) rows
  pub others : (doc : ℕ) → doc < length texts → times doc (row_documents rows) ≡ 0
      → score texts query (slice_index_or texts doc []) ≤ rest

-- For every archive with this root, either the rows of the proof and its rest are right for the archive's texts, or the
-- strings of the proof and those of the archive contain two different ones with equal digests.
abbrev pub AreBoundedOrCollide : (List ℕ → List ℕ) → List ℕ → List (List ℕ × ℕ) → Proof → Type 0
AreBoundedOrCollide H root query proof = (archive : Archive) → AreTexts archive.texts → root_of H archive ≡ root
    → AreBounded archive.texts query (rows_of query proof) (rest_of query proof) ⊎ IsSome (proof_collision H archive query proof)

-- the row at a place
abbrev pub row_at : List Row → ℕ → Row
row_at rows k = slice_index_or rows k (record { doc = 0; lower = 0; upper = 0 })

-- These rows and this rest settle an answer of at most r rows: no row can score more than the least that the row before
-- it scores, and the rest is at most the least that the last row scores, or 0 if there are fewer than r rows.
pub record AreSettledRows (r : ℕ) (rows : List Row) (rest : ℕ) : Type 0 where
  pub most : length rows ≤ r
  pub falling : (k : ℕ) → k + 1 < length rows → (row_at rows (k + 1)).upper ≤ (row_at rows k).lower
  pub full : length rows ≡ r → rest ≤ (row_at rows (length rows - 1)).lower
  pub fewer : length rows < r → rest ≡ 0
