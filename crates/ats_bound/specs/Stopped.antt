-- The state of a walk at a cut, and at its end.
use Rattle.std.specs.Prelude.{◌≡◌, ℕ, List}
use Rattle.ats_bound.specs.declared.walk.Walk.{Walk}
use Rattle.ats_bound.specs.Cut.{threshold}
use Rattle.ats_bound.specs.Settled.{ArePicks, IsSettled}
use Rattle.ats_bound.specs.Chosen.{IsChosen}
use Rattle.ats_bound.specs.Schedule.{WholeLane, Bounding, AreBracketsBy, shown}

-- the brackets, the threshold and the chosen answer at a cut
pub record IsStoppedAt (bounds : Bounding) (lanes : List WholeLane) (r : ℕ) (counts : List ℕ) (walk : Walk) : Type 0 where
  pub cut : walk.cut ≡ counts
  pub brackets : AreBracketsBy bounds (shown lanes counts) walk.brackets
  pub threshold : walk.threshold ≡ threshold (shown lanes counts)
  pub chosen : IsChosen walk.brackets r walk.picks
  pub inside : ArePicks walk.brackets walk.picks
  -- it is settled if any answer is
  pub best : (answer : List ℕ) → ArePicks walk.brackets answer → IsSettled walk.brackets answer walk.threshold r
      → IsSettled walk.brackets walk.picks walk.threshold r
