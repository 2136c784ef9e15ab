-- Beside specs/Terms: what only the functions of this room promise one another.
use Rattle.std.specs.Prelude.{ℕ}
use Rattle.ats_dict.specs.declared.spot.Spot.{Spot}
use Rattle.ats_dict.specs.declared.spot.Spot.TheVariants.{At, Between}

-- the position of its leaf, or of the lower neighbour
abbrev pub lower : Spot → ℕ
lower (At p) = p
lower (Between p) = p
