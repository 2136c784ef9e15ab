-- Terms by position: a term is at one position, or lies between two neighbours.
use Rattle.std.proofs.Common.{◌≡◌, ◌⊎◌, ◌<◌, ◌≤◌, ◌+◌, ℕ, zero, suc, List, refl, sym, subst, arith, inl, inr}
use Rattle.std.specs.declared.cmp.Ordering.{Ordering}
use Rattle.std.specs.declared.cmp.Ordering.TheVariants.{Less, Equal, Greater}
use Rattle.std.proofs.lemmas.Bool.{cases_order}
use Rattle.std.proofs.lemmas.Cmp.{nat_list_cmp_total}
use Rattle.ats_terms.specs.Found.{LiesBetween, StandsAt}
use Rattle.ats_terms.specs.Order.{IsBelow, byte_cmp}
use Rattle.ats_terms.proofs.Public.{equal_from, above_from}
use Rattle.ats_honest.proofs.Ranges.{not_below_itself}

-- ---- one position, if the terms from 1 to n rise strictly

module _ (at : ℕ → List ℕ) (n : ℕ) (rise : (p q : ℕ) → 1 ≤ p → p < q → q ≤ n → IsBelow (at p) (at q)) where
  stands_later : (term : List ℕ) (p q : ℕ) → StandsAt at n term p → StandsAt at n term q → p < q → ⊥
  stands_later term p q first second less =
      not_below_itself term (subst (λ (t : List ℕ). IsBelow t term) first.same
      (subst (λ (t : List ℕ). IsBelow (at p) t) second.same (rise p q first.some less second.within)))

  lies_later : (term : List ℕ) (p q : ℕ) → LiesBetween at n term p → LiesBetween at n term q → p < q → ⊥
  lies_later term p q first second less =
      let below : IsBelow (at q) (at (p + 1)) = nat_list_cmp_total.trans (at q) term (at (p + 1)) second.above first.below in
      elim (cases_order (p + 1) q) [
        | inl next ↦ not_below_itself (at q) (subst (λ (m : ℕ). IsBelow (at q) (at m)) next below)
        | inr other ↦ elim other [
          | inl past ↦ not_below_itself (at q) (nat_list_cmp_total.trans (at q) (at (p + 1)) (at q) below (rise (p + 1) q (omega arith) past second.within))
          | inr never ↦ absurd (omega (arith, less, never))
        ]
      ]

  one_position : (p q : ℕ) → (p < q → ⊥) → (q < p → ⊥) → p ≡ q
  one_position p q first second = elim (cases_order p q) [
    | inl same ↦ same
    | inr other ↦ elim other [ inl less ↦ absurd (first less) | inr greater ↦ absurd (second greater) ]
  ]

  pub one_stand : (term : List ℕ) (p q : ℕ) → StandsAt at n term p → StandsAt at n term q → p ≡ q
  one_stand term p q first second = one_position p q (stands_later term p q first second) (stands_later term q p second first)

  pub one_lie : (term : List ℕ) (p q : ℕ) → LiesBetween at n term p → LiesBetween at n term q → p ≡ q
  one_lie term p q first second = one_position p q (lies_later term p q first second) (lies_later term q p second first)

-- ---- some position, if the first term is below this one and the last above

module _ (at : ℕ → List ℕ) (n : ℕ) (term : List ℕ) (first : IsBelow (at 0) term) (last : IsBelow term (at (n + 1))) where
  abbrev IsFound : Type 0
  IsFound = ((p : ℕ) × StandsAt at n term p) ⊎ ((p : ℕ) × (p ≤ n) × IsBelow (at p) term × IsBelow term (at (p + 1)))

  -- by the order of the next position's term and this one
  next_is : (p : ℕ) (order : Ordering) → p < n → IsBelow (at p) term → byte_cmp (at (p + 1)) term ≡ order → IsFound ⊎ IsBelow (at (p + 1)) term
  next_is p Less less above is = inr is
  next_is p Equal less above is = inl (inl (p + 1, record { some = omega arith; within = omega (arith, less); same = equal_from (at (p + 1)) term is }))
  next_is p Greater less above is = inl (inr (p, omega (arith, less), above, above_from (at (p + 1)) term is))

  -- from a position below it on
  find : (k p : ℕ) → p + k ≡ n → IsBelow (at p) term → IsFound
  find zero p is above =
      let here : p ≡ n = omega (arith, is) in
      inr (p, omega (arith, is), above, subst (λ (m : ℕ). IsBelow term (at (m + 1))) (sym here) last)
  find (suc k) p is above = elim (next_is p (byte_cmp (at (p + 1)) term) (omega (arith, is)) above refl) [
    | inl found ↦ found
    | inr below ↦ find k (p + 1) (omega (arith, is)) below
  ]

  pub found : IsFound
  found = find n 0 (omega arith) first
