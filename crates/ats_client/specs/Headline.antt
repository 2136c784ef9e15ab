-- What an accepted proof says of each archive with the root.
use Rattle.std.specs.Prelude.{◌≡◌, ◌⊎◌, ◌≤◌, ℕ, List, [], map, slice_index_or, IsSome}
use Rattle.std.specs.List.{All}
use Rattle.ats_impact.specs.Rank.{IsTop}
use Rattle.ats_impact.specs.Score.{score}
use Rattle.ats_impact.specs.declared.rank.Row.{Row}
use Rattle.ats_commit.specs.Archive.{Archive}
use Rattle.ats_commit.specs.Root.{root_of}
use Rattle.ats_commit.specs.Own.{AreTexts}
use Rattle.ats_proof.specs.Value.{Proof}
use Rattle.ats_client.specs.Rows.{rows_of}
use Rattle.ats_client.specs.Strings.{proof_collision}

-- the score of the row's document is between the row's bounds
pub record HoldsRow (texts : List (List ℕ)) (query : List (List ℕ × ℕ)) (row : Row) : Type 0 where
  pub least : row.lower ≤ score texts query (slice_index_or texts row.doc [])
  pub most : score texts query (slice_index_or texts row.doc []) ≤ row.upper

-- the documents of the rows are a top answer of at most r, and each row's bounds enclose the score of its document
pub record AreRight (texts : List (List ℕ)) (query : List (List ℕ × ℕ)) (r : ℕ) (rows : List Row) : Type 0 where
  pub top : IsTop texts query r (map (λ (row : Row). row.doc) rows)
  pub bounds : All (HoldsRow texts query) rows

-- The headline: for every archive with this root, either the rows are right for its texts, or the strings of the proof
-- and those of the archive contain two different ones with equal digests.
abbrev pub IsTopOrCollides : (List ℕ → List ℕ) → List ℕ → List (List ℕ × ℕ) → ℕ → Proof → Type 0
IsTopOrCollides H root query r proof = (archive : Archive) → AreTexts archive.texts → root_of H archive ≡ root
    → AreRight archive.texts query r (rows_of query proof) ⊎ IsSome (proof_collision H archive query proof)
