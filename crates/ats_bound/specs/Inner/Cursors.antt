-- Beside specs/Cursors: what only the functions of this room promise one another.
use Rattle.std.specs.Prelude.{◌≡◌, ◌+◌, ◌*◌, ℕ, List, [], ◌∷◌, map, if◌then◌else◌}
use Rattle.ats_bound.specs.Cut.{ShownLane, names, rest, threshold}
use Rattle.ats_bound.specs.Cursors.{Stage, shown_on, IsStage}

-- the rests of a stage's lists, and their sum
pub record AreRests (stage : Stage) (rests : List ℕ) (total : ℕ) : Type 0 where
  pub stands : IsStage stage
  pub each : rests ≡ map rest (shown_on stage)
  pub sum : total ≡ threshold (shown_on stage)

-- a number whose binary digits show which lanes name the document, the first lane by the lowest digit
abbrev pub named_by : List ShownLane → ℕ → ℕ
named_by [] doc = 0
named_by (lane ∷ lanes) doc = (if names doc lane then 1 else 0) + 2 * named_by lanes doc
