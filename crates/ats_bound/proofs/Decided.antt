-- Statements that are decidable.
use Rattle.std.proofs.Common.{◌≡◌, ◌⊎◌, ◌<◌, ◌≤◌, ℕ, zero, suc, subst, sym, arith, inl, inr}
use Rattle.std.proofs.lemmas.Bool.{cases_eq, cases_lt, cases_order}

abbrev pub IsDecided : Type 0 → Type 0
IsDecided P = P ⊎ (P → ⊥)

pub decided_eq : (m n : ℕ) → IsDecided (m ≡ n)
decided_eq m n = cases_eq m n

pub decided_le : (m n : ℕ) → IsDecided (m ≤ n)
decided_le m n = elim (cases_lt n m) [
  | inl less ↦ inr (λ le. omega (arith, less, le))
  | inr le ↦ inl le
]

pub decided_lt : (m n : ℕ) → IsDecided (m < n)
decided_lt m n = elim (cases_lt m n) [
  | inl less ↦ inl less
  | inr le ↦ inr (λ less. omega (arith, less, le))
]

pub decided_if : {P Q : Type 0} → IsDecided P → IsDecided Q → IsDecided (P → Q)
decided_if (inr not) second = inl (λ here. absurd (not here))
decided_if (inl here) (inl also) = inl (λ _. also)
decided_if (inl here) (inr not) = inr (λ from. not (from here))

more_below : (P : ℕ → Type 0) (n : ℕ) → IsDecided (P n) → IsDecided ((k : ℕ) → k < n → P k) → IsDecided ((k : ℕ) → k < suc n → P k)
more_below P n last (inr not) = inr (λ all. not (λ k less. all k (omega (arith, less))))
more_below P n (inr not) (inl before) = inr (λ all. not (all n (omega arith)))
more_below P n (inl last) (inl before) = inl (λ k less. elim (cases_order k n) [
  | inl same ↦ subst P (sym same) last
  | inr other ↦ elim other [
    | inl low ↦ before k low
    | inr high ↦ absurd (omega (arith, less, high))
  ]
])

-- of all numbers below n
pub decided_below : (P : ℕ → Type 0) → ((k : ℕ) → IsDecided (P k)) → (n : ℕ) → IsDecided ((k : ℕ) → k < n → P k)
decided_below P each zero = inl (λ k less. absurd (omega (arith, less)))
decided_below P each (suc n) = more_below P n (each n) (decided_below P each n)
