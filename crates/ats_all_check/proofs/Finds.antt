-- Lists of numbers that rise, what a test keeps of them, and runs of numbers.
use Rattle.std.proofs.Common.{◌≡◌, ◌<◌, ◌∙◌, ◌&&◌, ℕ, Bool, true, false, nat_eq, List, [], ◌∷◌, map, refl, sym, ap, inl, inr, arith}
use Rattle.std.specs.List.{All, filter, list_any, range_with_len}
use Rattle.std.specs.List.Sorted.{IsStrictlyIncreasing}
use Rattle.std.specs.Cmp.{unsigned_tied}
use Rattle.std.specs.Ordering.{eq_by_cmp, nat_cmp}
use Rattle.std.proofs.lemmas.Bool.{cases_Bool, eqb-true, eq-eqb}
use Rattle.std.proofs.lemmas.Cmp.{nat_cmp_total}
use Rattle.std.proofs.lemmas.List.Elements.{All-head, All-tail}
use Rattle.std.proofs.lemmas.List.Folds.{Any-from_list_any}
use Rattle.std.proofs.lemmas.List.FromFn.{length-range_with_len, get_or-range_with_len}
use Rattle.std.proofs.lemmas.List.Kept.{IsStrictlyIncreasing-filter}
use Rattle.std.proofs.lemmas.Map.Keys.{sorted_from_strictly_increasing}
use Rattle.std.proofs.lemmas.Map.Lookups.{exact_unsigned}
use Rattle.std.proofs.lemmas.Map.Views.{any-filter_same}
use Rattle.ats_postings.proofs.Public.{same_members}

-- whether a number is in a list
abbrev pub is_in : ℕ → List ℕ → Bool
is_in q numbers = list_any (λ m. nat_eq m q) numbers

pub same_test : (a b : Bool) → (a ≡ true → b ≡ true) → (b ≡ true → a ≡ true) → a ≡ b
same_test true b there back = sym (there refl)
same_test false true there back = back refl
same_test false false there back = refl

-- ---- what a test keeps

flipped : (a b : ℕ) → nat_eq a b ≡ nat_eq b a
flipped a b = same_test (nat_eq a b) (nat_eq b a) (λ is. eq-eqb b a (sym (eqb-true a b is))) (λ is. eq-eqb a b (sym (eqb-true b a is)))

tied : (q x : ℕ) → eq_by_cmp nat_cmp q x ≡ nat_eq x q
tied q x = unsigned_tied q x ∙ flipped q x

found_as : (q : ℕ) (xs : List ℕ) → list_any (eq_by_cmp nat_cmp q) xs ≡ is_in q xs
found_as q xs = ap (λ (test : ℕ → Bool). list_any test xs) (λ i x. tied q x i)

pub kept_found : (p : ℕ → Bool) (q : ℕ) (xs : List ℕ) → is_in q (filter p xs) ≡ (p q && is_in q xs)
kept_found p q xs = any-filter_same (λ m. nat_eq m q) p (p q) (λ m same. ap p (eqb-true m q same)) xs

-- of two lists that rise, a test keeps the same if both have the same numbers among those that pass it
pub same_kept : (p : ℕ → Bool) (xs ys : List ℕ) → IsStrictlyIncreasing xs → IsStrictlyIncreasing ys
    → ((q : ℕ) → p q ≡ true → is_in q xs ≡ is_in q ys) → filter p xs ≡ filter p ys
same_kept p xs ys first second same =
    same_members nat_cmp_total exact_unsigned (filter p xs) (filter p ys)
    (sorted_from_strictly_increasing (filter p xs) (IsStrictlyIncreasing-filter p xs first))
    (sorted_from_strictly_increasing (filter p ys) (IsStrictlyIncreasing-filter p ys second))
    (λ q.
    let tests : (p q && is_in q xs) ≡ (p q && is_in q ys) = elim (cases_Bool (p q)) [
      | inl passes ↦ ap (λ b. p q && b) (same q passes)
      | inr fails ↦ rw fails refl
    ] in
    found_as q (filter p xs) ∙ kept_found p q xs ∙ tests ∙ sym (found_as q (filter p ys) ∙ kept_found p q ys))

-- a test that no number passes keeps none
pub none_kept : (p : ℕ → Bool) (xs : List ℕ) → All (λ x. p x ≡ false) xs → filter p xs ≡ []
none_kept p [] each = refl
none_kept p (x ∷ xs) each = rw (All-head (λ x. p x ≡ false) x xs each) (none_kept p xs (All-tail (λ x. p x ≡ false) x xs each))

-- what a test keeps of elements, by their numbers
pub kept_numbers : {X : Type 0} (number : X → ℕ) (test : X → Bool) (p : ℕ → Bool) (xs : List X) → All (λ x. test x ≡ p (number x)) xs
    → map number (filter test xs) ≡ filter p (map number xs)
kept_numbers number test p [] each = refl
kept_numbers {X} number test p (x ∷ xs) each =
    let here : test x ≡ p (number x) = All-head (λ x. test x ≡ p (number x)) x xs each in
    let later = kept_numbers number test p xs (All-tail (λ x. test x ≡ p (number x)) x xs each) in
    elim (cases_Bool (p (number x))) [
      | inl passes ↦
          let kept : test x ≡ true = here ∙ passes in
          rw (kept, passes) (ap (λ (ns : List ℕ). number x ∷ ns) later)
      | inr fails ↦
          let dropped : test x ≡ false = here ∙ fails in
          rw (dropped, fails) later
    ]

-- ---- the numbers below n

pub in_below : (n q : ℕ) → is_in q (range_with_len 0 n) ≡ true → q < n
in_below n q is =
    let any = Any-from_list_any (λ m. nat_eq m q) (range_with_len 0 n) is in
    let low : any.0 < n = omega (arith, any.2, length-range_with_len 0 n) in
    omega (arith, low, get_or-range_with_len 0 n any.0 any.1 low, any.3, eqb-true any.1 q any.4)

pub all_below : (n : ℕ) → All (λ q. q < n) (range_with_len 0 n)
all_below n k d inside =
    let low : k < n = omega (arith, inside, length-range_with_len 0 n) in
    omega (arith, low, get_or-range_with_len 0 n k d low)
