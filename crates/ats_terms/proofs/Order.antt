-- Byte order, and the places of terms that rise in it.
use Rattle.std.proofs.Common.{◌≡◌, ◌≢◌, ◌<◌, ◌≤◌, ℕ, zero, suc, List, [], ◌∷◌, length, get_or, refl, sym, ap, subst, ◌∙◌, inl, inr, arith}
use Rattle.std.specs.List.{All}
use Rattle.std.specs.List.Sorted.{IsNonDecreasingBy, IsPartitionPoint}
use Rattle.std.specs.Ordering.{ordering_index, ordering_reverse}
use Rattle.std.specs.declared.cmp.Ordering.{Ordering}
use Rattle.std.specs.declared.cmp.Ordering.TheVariants.{Less, Equal, Greater}
use Rattle.std.proofs.lemmas.Bool.{cases_lt, cases_order}
use Rattle.std.proofs.lemmas.Cmp.{nat_list_cmp_total, tied_itself}
use Rattle.ats_terms.specs.Order.{byte_cmp, IsBelow}
use Rattle.ats_terms.specs.Query.{RisesFrom, Rises}
use Rattle.ats_terms.proofs.Counting.{equal_from}

rises_past : (term : List ℕ) (pairs : List (List ℕ × ℕ)) (j : ℕ) (d : List ℕ × ℕ) → RisesFrom term pairs → j < length pairs
    → byte_cmp term (get_or pairs j d).0 ≡ Less
rises_past term [] j d rises inside = absurd (omega arith)
rises_past term (pair ∷ rest) zero d (less, rises) inside = less
rises_past term (pair ∷ rest) (suc j) d (less, rises) inside =
    nat_list_cmp_total.trans term pair.0 (get_or rest j d).0 less (rises_past pair.0 rest j d rises (omega arith))

pub rises_rest : (pair : List ℕ × ℕ) (rest : List (List ℕ × ℕ)) → Rises (pair ∷ rest) → Rises rest
rises_rest pair [] rises = tt
rises_rest pair (next ∷ rest) rises = rises.1

-- an earlier term is less than a later one
pub rises_less : (pairs : List (List ℕ × ℕ)) (i j : ℕ) (d : List ℕ × ℕ) → Rises pairs → i < j → j < length pairs
    → byte_cmp (get_or pairs i d).0 (get_or pairs j d).0 ≡ Less
rises_less [] i j d rises up inside = absurd (omega arith)
rises_less (pair ∷ rest) zero zero d rises up inside = absurd (omega arith)
rises_less (pair ∷ rest) zero (suc j) d rises up inside = rises_past pair.0 rest j d rises (omega arith)
rises_less (pair ∷ rest) (suc i) zero d rises up inside = absurd (omega arith)
rises_less (pair ∷ rest) (suc i) (suc j) d rises up inside = rises_less rest i j d (rises_rest pair rest rises) (omega arith) (omega arith)

pub above_from : (term other : List ℕ) → byte_cmp term other ≡ Greater → IsBelow other term
above_from term other greater = nat_list_cmp_total.antisymm other term ∙ ap ordering_reverse greater

unequal : (x y : List ℕ) (o : Ordering) → byte_cmp x y ≡ o → o ≢ Equal → x ≢ y
unequal x y o is other same = other (sym is ∙ subst (λ z. byte_cmp x z ≡ Equal) same (tied_itself nat_list_cmp_total x))

pub less_unequal : (x y : List ℕ) → byte_cmp x y ≡ Less → x ≢ y
less_unequal x y less = unequal x y Less less (λ clash. cc)

greater_unequal : (x y : List ℕ) → byte_cmp x y ≡ Greater → x ≢ y
greater_unequal x y greater = unequal x y Greater greater (λ clash. cc)

-- terms at two places differ
pub rises_apart : (pairs : List (List ℕ × ℕ)) (i j : ℕ) (d : List ℕ × ℕ) → Rises pairs → i < length pairs → j < length pairs → i ≢ j
    → (get_or pairs i d).0 ≢ (get_or pairs j d).0
rises_apart pairs i j d rises first second apart = elim (cases_order i j) [
  | inl same ↦ absurd (apart same)
  | inr (inl up) ↦ less_unequal (get_or pairs i d).0 (get_or pairs j d).0 (rises_less pairs i j d rises up second)
  | inr (inr down) ↦ λ same. less_unequal (get_or pairs j d).0 (get_or pairs i d).0 (rises_less pairs j i d rises down first) (sym same)
]

at_most : (o : Ordering) → ordering_index o ≤ 2
at_most Less = omega arith
at_most Equal = omega arith
at_most Greater = omega arith

up_step : (x y term : List ℕ) (o : Ordering) → byte_cmp y term ≡ o → byte_cmp x y ≡ Less → ordering_index (byte_cmp x term) ≤ ordering_index o
up_step x y term Less is less = rw (nat_list_cmp_total.trans x y term less is) (omega arith)
up_step x y term Equal is less = let same : y ≡ term = equal_from y term is in rw (← same, less) (omega arith)
up_step x y term Greater is less = at_most (byte_cmp x term)

-- the comparisons with one term never fall
pub compares_up : (pairs : List (List ℕ × ℕ)) (term : List ℕ) → Rises pairs → IsNonDecreasingBy (λ pair. ordering_index (byte_cmp pair.0 term)) pairs
compares_up pairs term rises i j d up inside = elim (cases_lt i j) [
  | inl less ↦ up_step (get_or pairs i d).0 (get_or pairs j d).0 term (byte_cmp (get_or pairs j d).0 term) refl (rises_less pairs i j d rises less inside)
  | inr over ↦ let same : i ≡ j = omega arith in rw same (omega arith)
]

-- a term between the lesser and the greater ones is none of them
pub parted : (pairs : List (List ℕ × ℕ)) (term : List ℕ) (i : ℕ)
    → IsPartitionPoint (λ (pair : List ℕ × ℕ). byte_cmp pair.0 term ≡ Less) (λ (pair : List ℕ × ℕ). byte_cmp pair.0 term ≡ Greater) pairs i
    → All (λ pair. pair.0 ≢ term) pairs
parted pairs term i parts k d inside = elim (cases_lt k i) [
  | inl before ↦ less_unequal (get_or pairs k d).0 term (parts.0 k d (omega arith) before)
  | inr after ↦ greater_unequal (get_or pairs k d).0 term (parts.1 k d after inside)
]
