-- Lists that rise strictly and have the same elements are equal.
use Rattle.std.proofs.Common.{◌≡◌, ◌<◌, ◌||◌, ◌+◌, ◌∙◌, ℕ, zero, suc, Bool, true, false, cond, List, [], ◌∷◌, length, get_or, ap, sym, refl, subst, inl, inr, arith}
use Rattle.std.specs.List.{All, Contains, IsDistinct, filter, list_any}
use Rattle.std.specs.List.Sorted.{IsSorted, IsStrictlySortedBy}
use Rattle.std.specs.Cmp.{IsTotalOrder}
use Rattle.std.specs.Ordering.{eq_by_cmp}
use Rattle.std.specs.declared.cmp.Ordering.{Ordering}
use Rattle.std.proofs.lemmas.Bool.{cases_Bool, or_cases}
use Rattle.std.proofs.lemmas.List.Elements.{All-cons, All-head, All-nil, All-tail}
use Rattle.std.proofs.lemmas.Map.Keys.{apart_from_distinct, sorted_from_all_adjacent}
use Rattle.std.proofs.lemmas.Map.Lookups.{CmpEqualImpliesEq}
use Rattle.ats_postings.proofs.Public.{less_by, same_members}

module _ {X : Type 0} where
  pub any_at : (test : X → Bool) (ys : List X) (k : ℕ) (d : X) → k < length ys → test (get_or ys k d) ≡ true → list_any test ys ≡ true
  any_at test [] k d low is = absurd (omega (arith, low))
  any_at test (y ∷ ys) zero d low is = ap (λ b. b || list_any test ys) is
  any_at test (y ∷ ys) (suc k) d low is = elim (cases_Bool (test y)) [
    | inl here ↦ ap (λ b. b || list_any test ys) here
    | inr not ↦ ap (λ b. b || list_any test ys) not ∙ any_at test ys k d (omega (arith, low)) is
  ]

  pub any_found : (test : X → Bool) (xs : List X) (d : X) → list_any test xs ≡ true → (k : ℕ) × (k < length xs) × (test (get_or xs k d) ≡ true)
  any_found test [] d is = absurd (cc)
  any_found test (x ∷ xs) d is = elim (or_cases (test x) (list_any test xs) is) [
    | inl here ↦ (0, omega arith, here)
    | inr later ↦ let found = any_found test xs d later in (suc found.0, omega (arith, found.1), found.2)
  ]

  any_contained : (test : X → Bool) (xs ys : List X) → All (Contains ys) xs → list_any test xs ≡ true → list_any test ys ≡ true
  any_contained test [] ys each is = absurd (cc)
  any_contained test (x ∷ xs) ys each is = elim (or_cases (test x) (list_any test xs) is) [
    | inl here ↦
        let there : Contains ys x = All-head (Contains ys) x xs each in
        any_at test ys there.0 x there.1 (ap test there.2 ∙ here)
    | inr later ↦ any_contained test xs ys (All-tail (Contains ys) x xs each) later
  ]

  same_any : (test : X → Bool) (xs ys : List X) → All (Contains ys) xs → All (Contains xs) ys → list_any test xs ≡ list_any test ys
  same_any test xs ys each also = elim (cases_Bool (list_any test xs)) [
    | inl is ↦ is ∙ sym (any_contained test xs ys each is)
    | inr not ↦ elim (cases_Bool (list_any test ys)) [
      | inl is ↦ absurd (let clash : true ≡ false = sym (any_contained test ys xs also is) ∙ not in cc)
      | inr none ↦ not ∙ sym none
    ]
  ]

  pub contained_filter : (test : X → Bool) (xs : List X) (x : X) → test x ≡ true → Contains xs x → Contains (filter test xs) x
  contained_filter test [] x is there = absurd (omega (arith, there.1))
  contained_filter test (y ∷ xs) x is (zero, low, same) = subst (λ (z : X). Contains (filter test (z ∷ xs)) x) (sym same) (subst (λ (l : List X). Contains l x) (sym (ap (λ b. cond b (x ∷ filter test xs) (filter test xs)) is)) (0, omega arith, refl))
  contained_filter test (y ∷ xs) x is (suc k, low, same) =
      let later : Contains (filter test xs) x = contained_filter test xs x is (k, omega (arith, low), same) in
      elim (cases_Bool (test y)) [
        | inl here ↦ subst (λ (l : List X). Contains l x) (sym (ap (λ b. cond b (y ∷ filter test xs) (filter test xs)) here)) (suc later.0, omega (arith, later.1), later.2)
        | inr not ↦ subst (λ (l : List X). Contains l x) (sym (ap (λ b. cond b (y ∷ filter test xs) (filter test xs)) not)) later
      ]

  -- what holds of each element that passes
  pub All-filtered : (P : X → Type 0) (test : X → Bool) (xs : List X) → ((k : ℕ) (d : X) → k < length xs → test (get_or xs k d) ≡ true → P (get_or xs k d))
      → All P (filter test xs)
  All-filtered P test [] each = All-nil P
  All-filtered P test (x ∷ xs) each =
      let later : All P (filter test xs) = All-filtered P test xs (λ k d low. each (suc k) d (omega (arith, low))) in
      elim (cases_Bool (test x)) [
        | inl is ↦ rw is (All-cons P x (filter test xs) (each 0 x (omega arith) is) later)
        | inr not ↦ rw not later
      ]

  pub filter_all : (test : X → Bool) (xs : List X) → All (λ x. test x ≡ true) xs → filter test xs ≡ xs
  filter_all test [] each = refl
  filter_all test (x ∷ xs) each =
      ap (λ b. cond b (x ∷ filter test xs) (filter test xs)) (All-head (λ y. test y ≡ true) x xs each)
      ∙ ap (λ (l : List X). x ∷ l) (filter_all test xs (All-tail (λ y. test y ≡ true) x xs each))

  module _ (R : X → X → Ordering) (total : IsTotalOrder R) where
    pub same_elements : CmpEqualImpliesEq R → (xs ys : List X) → IsStrictlySortedBy R xs → IsStrictlySortedBy R ys
        → All (Contains ys) xs → All (Contains xs) ys → xs ≡ ys
    same_elements exact xs ys first second each also = same_members total exact xs ys first second (λ q. same_any (eq_by_cmp R q) xs ys each also)

    -- distinct elements that are sorted rise strictly
    pub strictly_sorted : (xs : List X) (d : X) → IsDistinct (eq_by_cmp R) xs → IsSorted R xs → IsStrictlySortedBy R xs
    strictly_sorted xs d distinct sorted =
        sorted_from_all_adjacent total xs d (λ k inside.
        less_by _ _ (total.antisymm (get_or xs (k + 1) d) (get_or xs k d)) (sorted k d (omega arith) inside)
        (apart_from_distinct (eq_by_cmp R) xs k (k + 1) d distinct (omega arith) inside))
