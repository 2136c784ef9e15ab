-- Beside specs/Part: what only the functions of this room promise one another.
use Rattle.std.specs.Prelude.{ℕ, ◌+◌, ◌<◌, ◌≤◌, List, [], ◌∷◌, ⊤}

-- the positions rise strictly, from at least `from` to below `end`
abbrev pub RisesWithin : ℕ → ℕ → List ℕ → Type 0
RisesWithin from end [] = ⊤
RisesWithin from end (p ∷ ps) = (from ≤ p) × (p < end) × RisesWithin (p + 1) end ps
