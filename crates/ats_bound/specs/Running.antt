-- Walks that run from cut to cut, and when no answer can be settled yet.
use Rattle.std.specs.Prelude.{ℕ, List}
use Rattle.ats_bound.specs.Cut.{ShownLane}
use Rattle.ats_bound.specs.Schedule.{WholeLane, shown}

-- the whole lists, how many rows an answer may have, and how many entries of each list are shown
pub record Standing : Type 0 where
  pub lanes : List WholeLane
  pub rows : ℕ
  pub cut : List ℕ

-- what is shown at this cut
abbrev pub shown_in : Standing → List ShownLane
shown_in standing = shown standing.lanes standing.cut
