-- The longest common prefix of two lists of numbers.
use Rattle.std.proofs.Common.{◌≡◌, ◌≢◌, ◌+◌, ◌<◌, ℕ, List, [], ◌∷◌, ◌++◌, Bool, true, false, cond, length, drop, refl, ap, ap₂, arith, eq-eqb}
use Rattle.std.specs.Prelude.{nat_eq}
use Rattle.std.specs.List.{common_prefix_len}
use borrow.Author.Tests.{eqb-true}

-- a common front counts
pub shared : (front xs ys : List ℕ) → common_prefix_len nat_eq (front ++ xs) (front ++ ys) ≡ length front + common_prefix_len nat_eq xs ys
shared [] xs ys = omega arith
shared (x ∷ front) xs ys = rw (eq-eqb x x refl) (omega (arith, shared front xs ys))

-- a front of a list is all common
pub whole : (ys zs : List ℕ) → common_prefix_len nat_eq (ys ++ zs) ys ≡ length ys
whole [] [] = refl
whole [] (z ∷ zs) = refl
whole (y ∷ ys) zs = rw (eq-eqb y y refl) (omega (arith, whole ys zs))

module _ (x y : ℕ) (xs ys : List ℕ) where
  all_next : (equal : Bool) → nat_eq x y ≡ equal → (common_prefix_len nat_eq xs ys ≡ length ys → xs ≡ ys ++ drop (length ys) xs)
      → cond equal (1 + common_prefix_len nat_eq xs ys) 0 ≡ length (y ∷ ys) → x ∷ xs ≡ (y ∷ ys) ++ drop (length (y ∷ ys)) (x ∷ xs)
  all_next true is next all = ap₂ (λ (z : ℕ) (zs : List ℕ). z ∷ zs) (eqb-true x y is) (next (omega (arith, all)))
  all_next false is next all = absurd (omega (arith, all))

  more_next : (more : List ℕ) (equal : Bool) → (common_prefix_len nat_eq xs ys < length ys → common_prefix_len nat_eq xs (ys ++ more) ≡ common_prefix_len nat_eq xs ys)
      → cond equal (1 + common_prefix_len nat_eq xs ys) 0 < length (y ∷ ys)
      → cond equal (1 + common_prefix_len nat_eq xs (ys ++ more)) 0 ≡ cond equal (1 + common_prefix_len nat_eq xs ys) 0
  more_next more true next short = ap (λ n. 1 + n) (next (omega (arith, short)))
  more_next more false next short = refl

-- a list that is all common is a front
pub all_common : (xs ys : List ℕ) → common_prefix_len nat_eq xs ys ≡ length ys → xs ≡ ys ++ drop (length ys) xs
all_common xs [] all = refl
all_common [] (y ∷ ys) all = absurd (omega (arith, all))
all_common (x ∷ xs) (y ∷ ys) all = all_next x y xs ys (nat_eq x y) refl (all_common xs ys) all

-- what follows a difference does not count
pub more_same : (xs ys more : List ℕ) → common_prefix_len nat_eq xs ys < length ys → common_prefix_len nat_eq xs (ys ++ more) ≡ common_prefix_len nat_eq xs ys
more_same xs [] more short = absurd (omega (arith, short))
more_same [] (y ∷ ys) more short = refl
more_same (x ∷ xs) (y ∷ ys) more short = more_next x y xs ys more (nat_eq x y) (more_same xs ys more) short

-- and there is one
pub more_other : (xs ys more : List ℕ) → common_prefix_len nat_eq xs ys < length ys → xs ≢ ys ++ more
more_other xs ys more short is = omega (arith, ap (λ zs. common_prefix_len nat_eq zs ys) is, whole ys more)
