-- Lists that rise strictly in an order, and sorted lists of distinct elements.
use Rattle.std.proofs.Common.{◌≡◌, ◌<◌, ◌+◌, ℕ, true, false, List, [], ◌∷◌, ◌++◌, length, get_or, map, refl, sym, subst, ◌∙◌, inl, inr, arith}
use Rattle.std.specs.List.{All, AllByRecursion, IsDistinct, list_any}
use Rattle.std.specs.List.Sorted.{IsPermutation, IsSorted, IsStrictlySortedBy}
use Rattle.std.specs.Cmp.{IsTotalOrder}
use Rattle.std.specs.Ordering.{eq_by_cmp, is_eq, is_lt, ordering_reverse}
use Rattle.std.specs.declared.cmp.Ordering.{Ordering}
use Rattle.std.specs.declared.cmp.Ordering.TheVariants.{Less, Equal, Greater}
use Rattle.std.specs.BTreeSet.{BTreeSet}
use Rattle.std.proofs.lemmas.Bool.{cases_lt}
use Rattle.std.proofs.lemmas.Cmp.{eq_by_cmp_equiv, tied_itself}
use Rattle.std.proofs.lemmas.List.Elements.{All-head, All-tail, recursion_from_All}
use Rattle.std.proofs.lemmas.List.Sorted.{IsPermutation-sym, IsPermutation-trans, list_any-IsPermutation}
use Rattle.std.proofs.lemmas.Map.Keys.{IsDistinct-IsPermutation, apart_from_distinct, sorted_from_all_adjacent, Less-from_sorted}
use Rattle.std.proofs.lemmas.Map.Lookups.{CmpEqualImpliesEq, btree_set_from_contains}

-- the members of a list that rises strictly determine it
pub same_members : {K : Type 0} {R : K → K → Ordering} → IsTotalOrder R → CmpEqualImpliesEq R → (xs ys : List K)
    → IsStrictlySortedBy R xs → IsStrictlySortedBy R ys → ((q : K) → list_any (eq_by_cmp R q) xs ≡ list_any (eq_by_cmp R q) ys) → xs ≡ ys
same_members {K} total exact xs ys first second same =
    let s : BTreeSet K = record { keys = xs } in
    let t : BTreeSet K = record { keys = ys } in
    btree_set_from_contains total s t first second same exact

-- what is not above, and not equal, is below
pub less_by : (p q : Ordering) → q ≡ ordering_reverse p → is_lt q ≡ false → is_eq p ≡ false → p ≡ Less
less_by Less q is lt eq = refl
less_by Equal q is lt eq = absurd (let clash : true ≡ false = eq in cc)
less_by Greater q is lt eq = absurd (let clash : true ≡ false = rw is at lt in cc)

-- distinct elements that are sorted rise strictly
pub rises_from_sorted : {K : Type 0} {R : K → K → Ordering} → IsTotalOrder R → (xs : List K) → IsDistinct (eq_by_cmp R) xs → IsSorted R xs → IsStrictlySortedBy R xs
unfolding IsStrictlySortedBy
rises_from_sorted total [] distinct sorted = tt
rises_from_sorted {K} {R} total (x ∷ xs) distinct sorted =
    sorted_from_all_adjacent total (x ∷ xs) x (λ k inside.
    less_by _ _ (total.antisymm (get_or (x ∷ xs) (k + 1) x) (get_or (x ∷ xs) k x)) (sorted k x (omega arith) inside)
    (apart_from_distinct (eq_by_cmp R) (x ∷ xs) k (k + 1) x distinct (omega arith) inside))

-- what rises strictly is sorted
pub sorted_from_rises : {K : Type 0} {R : K → K → Ordering} → IsTotalOrder R → (xs : List K) → IsStrictlySortedBy R xs → IsSorted R xs
sorted_from_rises {K} {R} total xs rises k d low inside =
    let less : R (get_or xs k d) (get_or xs (k + 1) d) ≡ Less = Less-from_sorted R xs k (k + 1) d rises (omega arith) inside in
    rw (total.antisymm (get_or xs (k + 1) d) (get_or xs k d), less) refl

-- a sorted permutation of distinct elements is the only one, if the order distinguishes all elements
pub sorted_permutation_is_one : {K : Type 0} {R : K → K → Ordering} → IsTotalOrder R → CmpEqualImpliesEq R → (all xs ys : List K)
    → IsDistinct (eq_by_cmp R) all → IsPermutation all xs → IsSorted R xs → IsPermutation all ys → IsSorted R ys → xs ≡ ys
sorted_permutation_is_one {K} {R} total exact all xs ys distinct first first_sorted second second_sorted =
    let flips = (eq_by_cmp_equiv total).symm in
    same_members total exact xs ys
    (rises_from_sorted total xs (IsDistinct-IsPermutation (eq_by_cmp R) flips all xs first distinct) first_sorted)
    (rises_from_sorted total ys (IsDistinct-IsPermutation (eq_by_cmp R) flips all ys second distinct) second_sorted)
    (λ q. list_any-IsPermutation (eq_by_cmp R q) xs ys (IsPermutation-trans xs all ys (IsPermutation-sym all xs first) second))

below_append : {K : Type 0} (P : K → Type 0) (xs ys : List K) → AllByRecursion P xs → AllByRecursion P ys → AllByRecursion P (xs ++ ys)
below_append P [] ys first second = second
below_append P (x ∷ xs) ys (here, first) second = (here, below_append P xs ys first second)

-- two lists joined, if each element of the first is below each of the second
pub rises_append : {K : Type 0} (R : K → K → Ordering) (xs ys : List K) → IsStrictlySortedBy R xs → IsStrictlySortedBy R ys
    → All (λ x. All (λ y. R x y ≡ Less) ys) xs → IsStrictlySortedBy R (xs ++ ys)
unfolding IsStrictlySortedBy
rises_append R [] ys first second below = second
rises_append R (x ∷ xs) ys (head, first) second below = (
  below_append (λ y. R x y ≡ Less) xs ys head (recursion_from_All (λ y. R x y ≡ Less) ys (All-head (λ x. All (λ y. R x y ≡ Less) ys) x xs below)),
  rises_append R xs ys first second (All-tail (λ x. All (λ y. R x y ≡ Less) ys) x xs below),
)

-- what holds for any element holds for all
pub all_any : {K : Type 0} (xs : List K) → AllByRecursion (λ _. Unit {0}) xs
all_any [] = tt
all_any (x ∷ xs) = (tt, all_any xs)

below_map : {K J : Type 0} (P : K → Type 0) (R : K → K → Ordering) (S : J → J → Ordering) (f : K → J) (x : K) (xs : List K)
    → ((y z : K) → P y → P z → R y z ≡ Less → S (f y) (f z) ≡ Less) → P x → AllByRecursion P xs
    → AllByRecursion (λ y. R x y ≡ Less) xs → AllByRecursion (λ y. S (f x) y ≡ Less) (map f xs)
below_map P R S f x [] keeps here all below = tt
below_map P R S f x (y ∷ ys) keeps here (next, all) (less, below) = (keeps x y here next less, below_map P R S f x ys keeps here all below)

-- a list whose elements are mapped, if that keeps the order of elements of this kind
pub rises_map : {K J : Type 0} (P : K → Type 0) (R : K → K → Ordering) (S : J → J → Ordering) (f : K → J) (xs : List K)
    → ((y z : K) → P y → P z → R y z ≡ Less → S (f y) (f z) ≡ Less) → AllByRecursion P xs → IsStrictlySortedBy R xs → IsStrictlySortedBy S (map f xs)
unfolding IsStrictlySortedBy
rises_map P R S f [] keeps all rises = tt
rises_map P R S f (x ∷ xs) keeps (here, all) (below, rises) = (below_map P R S f x xs keeps here all below, rises_map P R S f xs keeps all rises)

-- elements that rise strictly are at one place each
pub one_place : {K : Type 0} {R : K → K → Ordering} → IsTotalOrder R → (xs : List K) (i j : ℕ) (d : K) → IsStrictlySortedBy R xs
    → i < length xs → j < length xs → get_or xs i d ≡ get_or xs j d → i ≡ j
one_place {K} {R} total xs i j d rises first second same = elim (cases_lt i j) [
  | inl before ↦ absurd (clash i j before second same)
  | inr le ↦ elim (cases_lt j i) [
    | inl past ↦ absurd (clash j i past first (sym same))
    | inr ge ↦ omega (arith, le, ge)
  ]
]
  where
    clash : (a b : ℕ) → a < b → b < length xs → get_or xs a d ≡ get_or xs b d → ⊥
    clash a b up inside equal =
        let less : R (get_or xs a d) (get_or xs b d) ≡ Less = Less-from_sorted R xs a b d rises up inside in
        let tied : R (get_or xs a d) (get_or xs b d) ≡ Equal =
        subst (λ (x : K). R (get_or xs a d) x ≡ Equal) equal (tied_itself total (get_or xs a d)) in
        let no : Less ≡ Equal = sym less ∙ tied in
        cc
