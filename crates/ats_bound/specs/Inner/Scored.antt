-- Beside specs/Scored: what only the functions of this room promise one another.
use Rattle.std.specs.Prelude.{◌≡◌, ◌<◌, ◌+◌, ◌^◌, ℕ, List, length, map, is_some, Option}
use Rattle.std.specs.List.{All, list_any}
use Rattle.std.specs.List.Sorted.{IsStrictlySortedBy}
use Rattle.std.specs.Map.{keys_of, values_of, lookup}
use Rattle.std.specs.BTreeMap.{is_at}
use Rattle.std.specs.Ordering.{nat_cmp}
use Rattle.ats_bound.specs.declared.bracket.Bracket.{Bracket}
use Rattle.ats_bound.specs.Inner.Best.{AreBest}
use Rattle.ats_bound.specs.Cut.{names}
use Rattle.ats_bound.specs.Cursors.{IsStage, Stage, shown_on}
use Rattle.ats_bound.specs.Scored.{exact}

-- the brackets of documents with their scores
abbrev pub exact_brackets : List (ℕ × ℕ) → List Bracket
exact_brackets scores = map (λ (pair : ℕ × ℕ). exact pair.0 pair.1) scores

-- the score of a document, if it is there
abbrev pub score_in : List (ℕ × ℕ) → ℕ → Option ℕ
score_in scores doc = lookup (is_at (nat_cmp doc)) scores

-- the scores of the documents that the shown entries name, by document ascending, and the largest of them, one more
-- than rows
pub record AreScored (stage : Stage) (rows : ℕ) (scores : List (ℕ × ℕ)) (kept : List ℕ) : Type 0 where
  pub stands : IsStage stage
  pub rise : IsStrictlySortedBy nat_cmp (keys_of scores)
  pub small : All (λ pair. pair.1 < 2 ^ 64) scores
  pub met : (doc : ℕ) → is_some (score_in scores doc) ≡ list_any (names doc) (shown_on stage)
  pub best : AreBest kept (values_of scores)
  pub size : length kept ≡ rows + 1
