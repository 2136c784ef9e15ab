-- Beside specs/Stopped: what only the functions of this room promise one another.
use Rattle.std.specs.Prelude.{◌<◌, ℕ, List}
use Rattle.ats_bound.specs.declared.walk.Walk.{Walk}
use Rattle.ats_bound.specs.Settled.{IsSettled}
use Rattle.ats_bound.specs.Schedule.{WholeLane, Bounding, IsFirstSettledBy, IsScheduled}
use Rattle.ats_bound.specs.Stopped.{IsStoppedAt}

-- the walk is at the first cut of the schedule at which an answer is settled, with the chosen answer
pub record IsEnd (bounds : Bounding) (lanes : List WholeLane) (r : ℕ) (walk : Walk) : Type 0 where
  pub first : IsFirstSettledBy bounds lanes r walk.cut
  pub stopped : IsStoppedAt bounds lanes r walk.cut walk
  pub settled : IsSettled walk.brackets walk.picks walk.threshold r

-- a cut of the schedule, and the walk has stopped at no earlier one
pub record IsReached (Stops : List ℕ → Type 0) (lanes : List WholeLane) (counts : List ℕ) : Type 0 where
  pub turns : ℕ
  pub scheduled : IsScheduled lanes turns counts
  pub none : (n : ℕ) (earlier : List ℕ) → n < turns → IsScheduled lanes n earlier → Stops earlier → ⊥
