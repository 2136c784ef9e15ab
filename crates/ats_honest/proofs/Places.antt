-- Places among numbers that rise.
use Rattle.std.proofs.Common.{◌≡◌, ◌+◌, ◌<◌, ◌≤◌, ℕ, zero, suc, Bool, true, false, nat_lt, cond, List, [], ◌∷◌, length, get_or, ap, subst, arith, inl, inr}
use Rattle.std.specs.List.{count_by}
use Rattle.std.specs.List.Sorted.{IsStrictlyIncreasing, IsPartitionPoint, IsNonDecreasingBy}
use Rattle.std.proofs.lemmas.Bool.{cases_lt, lt-ltb, le-ltb}
use Rattle.std.proofs.lemmas.List.{get_or_default}
use Rattle.std.proofs.lemmas.List.Sums.{sum_by-cons}
use Rattle.ats_honest.specs.Terms.{place}
use Rattle.std.proofs.lemmas.List.Kept.{AllPairs-from_increasing}

-- numbers that rise do not fall
pub never_falls : (xs : List ℕ) → IsStrictlyIncreasing xs → IsNonDecreasingBy (λ x. x) xs
never_falls xs rise i j d up inside = elim (cases_lt i j) [
  | inl less ↦ omega (arith, AllPairs-from_increasing xs rise i j d less inside)
  | inr same ↦
      let e : i ≡ j = omega (arith, up, same) in
      subst (λ k. get_or xs i d ≤ get_or xs k d) e (omega arith)
]

count_by_cons : {X : Type 0} (p : X → Bool) (x : X) (xs : List X) → count_by p (x ∷ xs) ≡ cond (p x) 1 0 + count_by p xs
count_by_cons p x xs = sum_by-cons (λ y. cond (p y) 1 0) x xs

-- if a test passes up to a place and fails from there on, the place is how often it passes
pub count_at_point : (p : ℕ → Bool) (xs : List ℕ) (i : ℕ) → i ≤ length xs → IsPartitionPoint (λ y. p y ≡ true) (λ y. p y ≡ false) xs i → count_by p xs ≡ i
count_at_point p [] i most point = omega (arith, most)
count_at_point p (x ∷ xs) zero most point =
    let first : p x ≡ false = point.1 0 x (omega arith) (omega arith) in
    let none : count_by p xs ≡ 0 =
    count_at_point p xs 0 (omega arith) ((λ k d low less. absurd (omega (arith, less))), (λ k d low less. point.1 (suc k) d (omega arith) (omega (arith, less)))) in
    let no : ◌≡◌ {A = ℕ} (cond (p x) 1 0) 0 = ap (λ b. cond b 1 0) first in
    omega (arith, count_by_cons p x xs, no, none)
count_at_point p (x ∷ xs) (suc i) most point =
    let first : p x ≡ true = point.0 0 x (omega arith) (omega arith) in
    let rest : count_by p xs ≡ i =
    count_at_point p xs i (omega (arith, most)) (
      (λ k d low less. point.0 (suc k) d (omega arith) (omega (arith, less))),
      (λ k d low less. point.1 (suc k) d (omega (arith, low)) (omega (arith, less))),
    ) in
    let yes : ◌≡◌ {A = ℕ} (cond (p x) 1 0) 1 = ap (λ b. cond b 1 0) first in
    omega (arith, count_by_cons p x xs, yes, rest)

-- the place of a number of the list
pub place_at : (xs : List ℕ) (i : ℕ) → IsStrictlyIncreasing xs → i < length xs → place xs (get_or xs i 0) ≡ i
place_at xs i rise inside =
    let pairs = AllPairs-from_increasing xs rise in
    count_at_point (λ m. nat_lt m (get_or xs i 0)) xs i (omega (arith, inside)) (
      (λ k d low less. lt-ltb (get_or xs k d) (get_or xs i 0) (subst (λ n. get_or xs k d < n) (get_or_default xs i d 0 inside) (pairs k i d less inside))),
      (λ k d low less. le-ltb (get_or xs k d) (get_or xs i 0) (subst (λ n. n ≤ get_or xs k d) (get_or_default xs i d 0 inside) (never_falls xs rise i k d low less))),
    )

-- a greater number has no lower place
one_grows : (x m n : ℕ) → m ≤ n → cond (nat_lt x m) 1 0 ≤ cond (nat_lt x n) 1 0
one_grows x m n up = elim (cases_lt x m) [
  | inl below ↦
      let yes : nat_lt x m ≡ true = lt-ltb x m below in
      let also : nat_lt x n ≡ true = lt-ltb x n (omega (arith, below, up)) in
      rw (yes, also) (omega arith)
  | inr past ↦
      let no : nat_lt x m ≡ false = le-ltb x m past in
      rw no (omega arith)
]

pub place_grows : (xs : List ℕ) (m n : ℕ) → m ≤ n → place xs m ≤ place xs n
place_grows [] m n up = omega arith
place_grows (x ∷ xs) m n up =
    omega (arith, count_by_cons (λ k. nat_lt k m) x xs, count_by_cons (λ k. nat_lt k n) x xs, one_grows x m n up, place_grows xs m n up)
