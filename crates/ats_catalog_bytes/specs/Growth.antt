-- When a catalog has grown from one list of roots to another.
use Rattle.std.specs.Prelude.{◌≡◌, ◌≤◌, ◌<◌, ◌+◌, ℕ, List, [], length, get_or}

-- there are no fewer roots, and each old one but the last is the new one of its number; of the last one only the growth of
-- its archive speaks
pub record GrewTo (old new : List (List ℕ)) : Type 0 where
  pub more : length old ≤ length new
  pub kept : (i : ℕ) → i + 1 < length old → get_or old i [] ≡ get_or new i []
