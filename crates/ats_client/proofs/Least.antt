-- The first number that breaks a rule.
use Rattle.std.proofs.Common.{◌≡◌, ◌⊎◌, ◌<◌, ℕ, zero, suc, below_more, inl, inr, arith}
use Rattle.std.proofs.lemmas.Bool.{cases_order}

-- there is one at most
pub one_least : (P : ℕ → Type 0) (m n : ℕ) → (P m → ⊥) → (P n → ⊥) → ((i : ℕ) → i < m → P i) → ((i : ℕ) → i < n → P i) → m ≡ n
one_least P m n breaks ends before earlier = elim (cases_order m n) [
  | inl same ↦ same
  | inr (inl less) ↦ absurd (breaks (earlier m less))
  | inr (inr more) ↦ absurd (ends (before n more))
]

-- the first below n
pub record IsFirstBelow (P : ℕ → Type 0) (n : ℕ) : Type 0 where
  pub place : ℕ
  pub inside : place < n
  pub wrong : P place → ⊥
  pub before : (i : ℕ) → i < place → P i

-- if each number satisfies the rule or breaks it, all below n satisfy it or one is the first that breaks it
pub all_or_first : (P : ℕ → Type 0) → ((i : ℕ) → P i ⊎ (P i → ⊥)) → (n : ℕ) → ((i : ℕ) → i < n → P i) ⊎ IsFirstBelow P n
all_or_first P tried zero = inl (λ i low. absurd (omega (arith, low)))
all_or_first P tried (suc n) = elim (all_or_first P tried n) [
  | inr first ↦
      let inside = first.inside in
      inr (record { place = first.place; inside = omega (arith, inside); wrong = first.wrong; before = first.before })
  | inl all ↦ elim (tried n) [
    | inl keeps ↦ inl (λ i low. below_more P n all keeps i (omega (arith, low)))
    | inr breaks ↦ inr (record { place = n; inside = omega arith; wrong = breaks; before = all })
  ]
]
