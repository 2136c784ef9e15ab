-- The terms of a query that are at a leaf of the dictionary are those that some text has.
use Rattle.std.proofs.Common.{◌≡◌, ◌<◌, ◌++◌, ℕ, zero, suc, cond, nat_lt, List, [], ◌∷◌, length, map, take, get_or, refl, sym, ap, ◌∙◌, arith}
use Rattle.std.proofs.lemmas.List.Sums.{sum_by-cons}
use Rattle.std.proofs.lemmas.Cmp.{nat_list_cmp_total}
use Rattle.ats_terms.specs.Query.{Rises, RisesFrom, byte_cmp}
use Rattle.std.specs.declared.cmp.Ordering.TheVariants.{Less}
use Rattle.ats_dict.specs.declared.spot.Spot.{Spot}
use Rattle.ats_dict.specs.declared.spot.Spot.TheVariants.{At, Between}
use Rattle.ats_commit.specs.Archive.{Archive}
use Rattle.ats_commit.specs.Trees.{dictionary_of}
use Rattle.ats_proof.specs.Value.{kind_of_slot, present_in}
use Rattle.ats_honest.specs.Terms.{AreSpots, slot_of}
use Rattle.ats_honest.specs.Inner.Present.{standing}
use Rattle.ats_honest.specs.Lanes.{present}
use Rattle.ats_honest.proofs.Present.{absent_term, present_term}

-- ---- one term more

pub standing_more : (query : List (List ℕ × ℕ)) (spots : List Spot) (i p : ℕ) (d : List ℕ × ℕ) (e : Spot) → i < length query → length spots ≡ length query → get_or spots i e ≡ At p
    → standing (take (suc i) query) (take (suc i) spots) ≡ standing (take i query) (take i spots) ++ get_or query i d ∷ []
standing_more [] spots i p d e inside same is = absurd (omega (arith, inside))
standing_more (pair ∷ query) [] i p d e inside same is = absurd (omega (arith, same))
standing_more (pair ∷ query) (s ∷ spots) zero p d e inside same is = ap (λ (x : Spot). standing (pair ∷ []) (x ∷ [])) is
standing_more (pair ∷ query) (At q ∷ spots) (suc i) p d e inside same is =
    ap (λ (xs : List (List ℕ × ℕ)). pair ∷ xs) (standing_more query spots i p d e (omega (arith, inside)) (omega (arith, same)) is)
standing_more (pair ∷ query) (Between q ∷ spots) (suc i) p d e inside same is = standing_more query spots i p d e (omega (arith, inside)) (omega (arith, same)) is

pub standing_same : (query : List (List ℕ × ℕ)) (spots : List Spot) (i p : ℕ) (e : Spot) → i < length query → length spots ≡ length query → get_or spots i e ≡ Between p
    → standing (take (suc i) query) (take (suc i) spots) ≡ standing (take i query) (take i spots)
standing_same [] spots i p e inside same is = absurd (omega (arith, inside))
standing_same (pair ∷ query) [] i p e inside same is = absurd (omega (arith, same))
standing_same (pair ∷ query) (s ∷ spots) zero p e inside same is = ap (λ (x : Spot). standing (pair ∷ []) (x ∷ [])) is
standing_same (pair ∷ query) (At q ∷ spots) (suc i) p e inside same is =
    ap (λ (xs : List (List ℕ × ℕ)). pair ∷ xs) (standing_same query spots i p e (omega (arith, inside)) (omega (arith, same)) is)
standing_same (pair ∷ query) (Between q ∷ spots) (suc i) p e inside same is = standing_same query spots i p e (omega (arith, inside)) (omega (arith, same)) is

-- ---- as many as present slots

pub standing_each : (query : List (List ℕ × ℕ)) (spots : List Spot) (positions : List ℕ) → length spots ≡ length query → length (standing query spots) ≡ present_in (map (slot_of positions) spots)
standing_each [] [] positions same = refl
standing_each [] (s ∷ spots) positions same = absurd (omega (arith, same))
standing_each (pair ∷ query) [] positions same = absurd (omega (arith, same))
standing_each (pair ∷ query) (At p ∷ spots) positions same =
    omega (arith, sum_by-cons kind_of_slot (slot_of positions (At p)) (map (slot_of positions) spots), standing_each query spots positions (omega (arith, same)))
standing_each (pair ∷ query) (Between p ∷ spots) positions same =
    omega (arith, sum_by-cons kind_of_slot (slot_of positions (Between p)) (map (slot_of positions) spots), standing_each query spots positions (omega (arith, same)))

-- ---- they rise

lower_rises : (term other : List ℕ) (query : List (List ℕ × ℕ)) → byte_cmp term other ≡ Less → RisesFrom other query → RisesFrom term query
lower_rises term other [] less rises = tt
lower_rises term other (pair ∷ query) less rises = (nat_list_cmp_total.trans term other pair.0 less rises.0, rises.1)

from_rises : (term : List ℕ) (query : List (List ℕ × ℕ)) (spots : List Spot) → RisesFrom term query → RisesFrom term (standing query spots)
from_rises term [] spots rises = tt
from_rises term (pair ∷ query) [] rises = tt
from_rises term (pair ∷ query) (At p ∷ spots) rises = (rises.0, from_rises pair.0 query spots rises.1)
from_rises term (pair ∷ query) (Between p ∷ spots) rises = from_rises term query spots (lower_rises term pair.0 query rises.0 rises.1)

any_rises : (pair : List ℕ × ℕ) (query : List (List ℕ × ℕ)) → RisesFrom pair.0 query → Rises query
any_rises pair [] rises = tt
any_rises pair (next ∷ query) rises = rises.1

pub standing_rises : (query : List (List ℕ × ℕ)) (spots : List Spot) → Rises query → Rises (standing query spots)
standing_rises [] spots rises = tt
standing_rises (pair ∷ query) [] rises = tt
standing_rises (pair ∷ query) (At p ∷ spots) rises = from_rises pair.0 query spots rises
standing_rises (pair ∷ query) (Between p ∷ spots) rises = standing_rises query spots (any_rises pair query rises)

-- ---- they are the present ones

pub standing_present : (H : List ℕ → List ℕ) (archive : Archive) (query : List (List ℕ × ℕ)) (spots : List Spot) → AreSpots (dictionary_of H archive) query spots → standing query spots ≡ present archive.texts query
standing_present H archive [] [] are = refl
standing_present H archive [] (s ∷ spots) are = absurd are
standing_present H archive (pair ∷ query) [] are = absurd are
standing_present H archive (pair ∷ query) (At zero ∷ spots) are = absurd (omega (arith, are.0.some))
standing_present H archive (pair ∷ query) (At (suc p) ∷ spots) are =
    ap (λ (xs : List (List ℕ × ℕ)). pair ∷ xs) (standing_present H archive query spots are.1)
    ∙ ap (λ b. cond b (pair ∷ present archive.texts query) (present archive.texts query)) (sym (present_term H archive pair.0 p are.0))
standing_present H archive (pair ∷ query) (Between p ∷ spots) are =
    standing_present H archive query spots are.1
    ∙ ap (λ n. cond (nat_lt 0 n) (pair ∷ present archive.texts query) (present archive.texts query)) (sym (absent_term H archive pair.0 p are.0))
