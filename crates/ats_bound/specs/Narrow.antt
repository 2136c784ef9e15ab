-- What holds for each bracket of a walk.
use Rattle.std.specs.Prelude.{◌≡◌, ◌≤◌, ◌+◌, ℕ, List}
use Rattle.ats_bound.specs.declared.bracket.Bracket.{Bracket}
use Rattle.ats_bound.specs.Cut.{ShownLane, threshold}
use Rattle.ats_bound.specs.Schedule.{Bounding}

-- the bracket is the document's, its bounds are in order, and they differ by at most `slack`
pub record IsNarrow (slack doc : ℕ) (bracket : Bracket) : Type 0 where
  pub of : bracket.doc ≡ doc
  pub proper : bracket.lo ≤ bracket.hi
  pub narrow : bracket.hi ≤ bracket.lo + slack

-- each bracket is its document's, and no wider than the threshold
abbrev pub AreNarrow : Bounding → Type 0
AreNarrow bounds = (lanes : List ShownLane) (doc : ℕ) → IsNarrow (threshold lanes) doc (bounds lanes doc)
