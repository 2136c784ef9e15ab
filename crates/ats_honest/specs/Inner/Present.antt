-- The terms of a query that have a leaf.
use Rattle.std.specs.Prelude.{ℕ, List, [], ◌∷◌}
use Rattle.ats_dict.specs.declared.spot.Spot.{Spot}
use Rattle.ats_dict.specs.declared.spot.Spot.TheVariants.{At, Between}

-- the terms whose spot is a leaf, in their order
abbrev pub standing : List (List ℕ × ℕ) → List Spot → List (List ℕ × ℕ)
standing [] spots = []
standing (pair ∷ query) [] = []
standing (pair ∷ query) (At p ∷ spots) = pair ∷ standing query spots
standing (pair ∷ query) (Between p ∷ spots) = standing query spots
