-- Finding a key among keys that rise strictly.
use Rattle.std.proofs.Common.{◌≡◌, ◌≢◌, ◌+◌, ℕ, List, length, get_or, map, sym, subst, ◌∙◌, inl, inr, arith}
use Rattle.std.specs.List.{All}
use Rattle.std.specs.List.Sorted.{IsSortedBy, IsStrictlySortedBy, IsNonDecreasingBy, IsPartitionPoint}
use Rattle.std.specs.Ordering.{is_lt, ordering_index}
use Rattle.std.specs.declared.cmp.Ordering.{Ordering}
use Rattle.std.specs.declared.cmp.Ordering.TheVariants.{Less, Equal, Greater}
use Rattle.std.proofs.lemmas.Bool.{cases_lt}
use Rattle.std.proofs.lemmas.Cmp.{nat_list_cmp_total, tied_itself}
use Rattle.std.proofs.lemmas.List.{get_or-map, length-map}
use Rattle.std.proofs.lemmas.List.Sorted.{searchable_from_sorted}
use Rattle.ats_terms.specs.Query.{byte_cmp}
use Rattle.ats_postings.proofs.Public.{sorted_from_rises}

keys_sorted : {X : Type 0} (xs : List (List ℕ × X)) → IsStrictlySortedBy byte_cmp (map (λ x. x.0) xs) → IsSortedBy (λ a b. is_lt (byte_cmp a.0 b.0)) xs
keys_sorted {X} xs rises k d low inside =
    let key : List ℕ × X → List ℕ = λ x. x.0 in
    let size : length (map key xs) ≡ length xs = length-map xs key in
    rw (get_or-map key xs (k + 1) d d.0 inside, get_or-map key xs k d d.0 (omega arith))
    at (sorted_from_rises nat_list_cmp_total (map key xs) rises k d.0 low (omega arith))

-- the comparisons with one term never fall
pub searchable : {X : Type 0} (xs : List (List ℕ × X)) (term : List ℕ) → IsStrictlySortedBy byte_cmp (map (λ x. x.0) xs)
    → IsNonDecreasingBy (λ x. ordering_index (byte_cmp x.0 term)) xs
searchable {X} xs term rises = searchable_from_sorted nat_list_cmp_total (λ (x : List ℕ × X). x.0) xs term (keys_sorted xs rises)

unequal : (x y : List ℕ) (o : Ordering) → byte_cmp x y ≡ o → o ≢ Equal → x ≢ y
unequal x y o is other same = other (sym is ∙ subst (λ z. byte_cmp x z ≡ Equal) same (tied_itself nat_list_cmp_total x))

-- a term between the lesser and the greater keys is none of them
pub parted : {X : Type 0} (xs : List (List ℕ × X)) (term : List ℕ) (i : ℕ)
    → IsPartitionPoint (λ (x : List ℕ × X). byte_cmp x.0 term ≡ Less) (λ (x : List ℕ × X). byte_cmp x.0 term ≡ Greater) xs i
    → All (λ x. x.0 ≢ term) xs
parted xs term i parts k d inside = elim (cases_lt k i) [
  | inl before ↦ unequal (get_or xs k d).0 term Less (parts.0 k d (omega arith) before) (λ clash. cc)
  | inr after ↦ unequal (get_or xs k d).0 term Greater (parts.1 k d after inside) (λ clash. cc)
]
