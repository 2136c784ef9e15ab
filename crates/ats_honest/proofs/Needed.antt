-- The positions that some terms need, each once.
use Rattle.std.proofs.Common.{◌≡◌, ◌==◌, Bool, ◌*◌, ◌≤◌, ℕ, nat_eq, List, [], ◌∷◌, length, sym, ap, ◌∙◌, arith}
use Rattle.std.specs.List.{dedup, flat_map, list_any}
use Rattle.std.specs.List.Sorted.{IsPermutation, IsSorted, IsStrictlyIncreasing}
use Rattle.std.specs.Ordering.{eq_by_cmp, nat_cmp}
use Rattle.std.proofs.lemmas.Bool.Decides.{nat_tests}
use Rattle.std.proofs.lemmas.Cmp.{eq_by_cmp_equiv, nat_cmp_total}
use Rattle.std.proofs.lemmas.Map.Made.{length-le_from_is_member}
use Rattle.std.proofs.lemmas.List.Sorted.{list_any-IsPermutation}
use Rattle.std.proofs.lemmas.Map.Keys.{IsDistinct-from_sorted, IsStrictlyIncreasing-dedup, sorted_from_strictly_increasing}
use Rattle.ats_dict.specs.declared.spot.Spot.{Spot}
use Rattle.ats_dict.specs.declared.spot.Spot.TheVariants.{At, Between}
use Rattle.ats_bound.proofs.Public.{has_deduped}
use Rattle.ats_honest.specs.Terms.{AreNeeded, has, needs}

-- what sorting leaves, if each number is kept once: they rise, and are the same numbers
pub each_once : (all sorted kept : List ℕ) → IsPermutation all sorted → IsSorted nat_cmp sorted → kept ≡ dedup nat_eq sorted
    → IsStrictlyIncreasing kept × ((n : ℕ) → has n kept ≡ has n all)
each_once all sorted kept same ordered left = (
  rw left (IsStrictlyIncreasing-dedup sorted ordered),
  λ n. ap (has n) left ∙ has_deduped n sorted ∙ sym (list_any-IsPermutation (λ m. nat_eq m n) all sorted same),
)

pub are_needed : (spots : List Spot) (all sorted positions : List ℕ) → all ≡ flat_map needs spots → IsPermutation all sorted → IsSorted nat_cmp sorted
    → positions ≡ dedup nat_eq sorted → AreNeeded spots positions
are_needed spots all sorted positions is same ordered left =
    let once = each_once all sorted positions same ordered left in
    record { rise = once.0; needed = λ p. once.1 p ∙ ap (has p) is }

pub needs_few : (spots : List Spot) → length (flat_map needs spots) ≤ 2 * length spots
needs_few [] = omega arith
needs_few (At p ∷ spots) = omega (arith, needs_few spots)
needs_few (Between p ∷ spots) = omega (arith, needs_few spots)

pub same_test : (q m : ℕ) → eq_by_cmp nat_cmp q m ≡ (m == q)
same_test q m = grind (arith, nat_tests)

-- no more positions than the spots need
pub positions_few : (spots : List Spot) (positions : List ℕ) → AreNeeded spots positions → length positions ≤ 2 * length spots
positions_few spots positions is =
    let all : List ℕ = flat_map needs spots in
    let tests : (q : ℕ) → eq_by_cmp nat_cmp q ≡ (λ (m : ℕ). m == q) = λ q. λ i. λ m. same_test q m i in
    let few = length-le_from_is_member (eq_by_cmp_equiv nat_cmp_total) positions all
    (IsDistinct-from_sorted nat_cmp positions (sorted_from_strictly_increasing positions is.rise))
    (λ q member. ap (λ (f : ℕ → Bool). list_any f all) (tests q) ∙ sym (is.needed q) ∙ sym (ap (λ (f : ℕ → Bool). list_any f positions) (tests q)) ∙ member) in
    omega (arith, few, needs_few spots)
