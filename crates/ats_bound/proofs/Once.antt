-- No place is chosen twice.
use Rattle.std.proofs.Common.{ℕ, cond, nat_eq, List, length, arith}
use Rattle.std.specs.List.{range_with_len}
use Rattle.std.proofs.lemmas.List.Sums.{sum_by-take-le}
use Rattle.std.proofs.lemmas.List.Sorted.{sum_by-IsPermutation}
use Rattle.ats_bound.specs.declared.bracket.Bracket.{Bracket}
use Rattle.ats_bound.specs.Chosen.{IsChosen}
use Rattle.ats_bound.specs.Settled.{AreDistinct}
use Rattle.ats_bound.proofs.Places.{range_once}

pub chosen_once : (brackets : List Bracket) (r : ℕ) (picks : List ℕ) → IsChosen brackets r picks → AreDistinct picks
chosen_once brackets r picks chosen i =
    rw chosen.first (omega (
      arith,
      sum_by-take-le (λ x. cond (nat_eq x i) 1 0) chosen.all r,
      sum_by-IsPermutation (λ x. cond (nat_eq x i) 1 0) (range_with_len 0 (length brackets)) chosen.all chosen.same,
      range_once i 0 (length brackets),
    ))
