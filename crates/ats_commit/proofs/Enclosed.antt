-- Leaves between two sentinels.
use Rattle.std.proofs.Common.{◌≡◌, ◌≢◌, ◌∙◌, ◌<◌, ◌≤◌, ◌+◌, ◌-◌, refl, ℕ, zero, suc, List, length, get_or, sym, ap, subst, inl, inr, arith}
use Rattle.std.specs.List.{All}
use Rattle.std.specs.declared.cmp.Ordering.TheVariants.{Less}
use Rattle.std.proofs.lemmas.Bool.{cases_lt}
use Rattle.std.proofs.lemmas.Cmp.{nat_list_cmp_total}
use Rattle.std.proofs.lemmas.List.{get_or_default}
use Rattle.ats_terms.specs.Query.{byte_cmp}
use Rattle.ats_terms.proofs.Public.{less_unequal}

-- what holds of the sentinels and of each item holds at each position
pub at_each : {X : Type 0} (low high : X) (items : List X) (at : ℕ → X) → at 0 ≡ low → ((i : ℕ) → i < length items → at (suc i) ≡ get_or items i low)
    → ((p : ℕ) → p ≡ length items + 1 → at p ≡ high) → (P : X → Type 0) → P low → P high → All P items → (p : ℕ) → p < length items + 2 → P (at p)
at_each low high items at first inner last P lower upper all zero inside = subst P (sym first) lower
at_each low high items at first inner last P lower upper all (suc i) inside = elim (cases_lt i (length items)) [
  | inl within ↦ subst P (sym (inner i within)) (all i low within)
  | inr past ↦ subst P (sym (last (suc i) (omega arith))) upper
]

-- items whose names rise in byte order
module _ {X : Type 0} (low : X) (items : List X) (at : ℕ → X) (inner : (i : ℕ) → i < length items → at (suc i) ≡ get_or items i low)
    (name : X → List ℕ) (rises : (i j : ℕ) → i < j → j < length items → byte_cmp (name (get_or items i low)) (name (get_or items j low)) ≡ Less) where
  no_fall : (i j : ℕ) → i ≤ j → j < length items → byte_cmp (name (get_or items j low)) (name (get_or items i low)) ≡ Less → ⊥
  no_fall i j up inside less =
      let term : ℕ → List ℕ = λ (n : ℕ). name (get_or items n low) in
      elim (cases_lt i j) [
        | inl before ↦ less_unequal (term i) (term i) (nat_list_cmp_total.trans (term i) (term j) (term i) (rises i j before inside) less) refl
        | inr same ↦ let one : j ≡ i = omega arith in less_unequal (term j) (term i) less (ap term one)
      ]

  name_after : (i p : ℕ) → i < length items → p ≡ suc i → name (at p) ≡ name (get_or items i low)
  name_after i p inside is = ap (λ (n : ℕ). name (at n)) is ∙ ap name (inner i inside)

  -- a term between those of two neighbours is no item's
  pub none_between : (p : ℕ) (term : List ℕ) → p ≤ length items → byte_cmp (name (at p)) term ≡ Less → byte_cmp term (name (at (p + 1))) ≡ Less
      → All (λ item. name item ≢ term) items
  none_between p term within above below k d inside same =
      let here : term ≡ name (get_or items k low) = sym same ∙ ap name (get_or_default items k d low inside) in
      elim (cases_lt k p) [
        | inl before ↦ no_fall k (p - 1) (omega arith) (omega arith)
            (rw (← here, ← name_after (p - 1) p (omega arith) (omega arith)) above)
        | inr after ↦ no_fall p k after inside (rw (← here, ← name_after p (p + 1) (omega arith) (omega arith)) below)
      ]
