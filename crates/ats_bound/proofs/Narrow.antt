-- Brackets that are narrow.
use Rattle.std.proofs.Common.{◌≤◌, ◌+◌, ℕ, refl, arith}
use Rattle.ats_bound.specs.Narrow.{IsNarrow}

-- so much can be added to a lower bound
pub is_narrow : (threshold doc lo more : ℕ) → more ≤ threshold → IsNarrow threshold doc (record { doc = doc; lo = lo; hi = lo + more })
is_narrow threshold doc lo more few = record {
  of = refl;
  proper = omega arith;
  narrow = omega (arith, few);
}
