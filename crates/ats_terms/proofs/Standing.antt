-- Terms that rise between two sentinels: each is at one position only.
use Rattle.std.proofs.Common.{◌≡◌, ◌≢◌, ◌<◌, ◌≤◌, ◌+◌, ℕ, List, sym, subst, ◌∙◌, arith, inl, inr}
use Rattle.std.proofs.lemmas.Bool.{cases_order}
use Rattle.std.proofs.lemmas.Cmp.{nat_list_cmp_total}
use Rattle.ats_terms.specs.Order.{IsBelow}
use Rattle.ats_terms.specs.Found.{RiseBetweenSentinels, LiesBetween}
use Rattle.ats_terms.proofs.Order.{less_unequal}

module _ (at : ℕ → List ℕ) (n : ℕ) (is : RiseBetweenSentinels at n) (term : List ℕ) where
  -- a term is at one position only
  pub stands_once : (p q : ℕ) → p < n + 2 → q < n + 2 → at p ≡ term → at q ≡ term → p ≡ q
  stands_once p q first second here there = elim (cases_order p q) [
    | inl same ↦ same
    | inr (inl up) ↦ absurd (less_unequal (at p) (at q) (is.rises p q up second) (here ∙ sym there))
    | inr (inr down) ↦ absurd (less_unequal (at q) (at p) (is.rises q p down first) (there ∙ sym here))
  ]

  -- a term that lies between two neighbours is at no position
  pub stands_nowhere : (p : ℕ) → p ≤ n → IsBelow (at p) term → IsBelow term (at (p + 1)) → (q : ℕ) → q < n + 2 → at q ≢ term
  stands_nowhere p within above below q inside same = elim (cases_order q p) [
    | inl here ↦ less_unequal (at p) term above (subst (λ m. at m ≡ term) here same)
    | inr (inl before) ↦ less_unequal (at q) term (nat_list_cmp_total.trans (at q) (at p) term (is.rises q p before (omega arith)) above) same
    | inr (inr after) ↦ elim (cases_order (p + 1) q) [
      | inl next ↦ less_unequal term (at (p + 1)) below (sym (subst (λ m. at m ≡ term) (sym next) same))
      | inr (inl past) ↦ less_unequal term (at q) (nat_list_cmp_total.trans term (at (p + 1)) (at q) below (is.rises (p + 1) q past inside)) (sym same)
      | inr (inr never) ↦ absurd (omega arith)
    ]
  ]

  pub lies_between : (p : ℕ) → p ≤ n → IsBelow (at p) term → IsBelow term (at (p + 1)) → LiesBetween at n term p
  lies_between p within above below = record {
    within = within;
    above = above;
    below = below;
    absent = λ q stands. stands_nowhere p within above below q (omega (arith, stands.within)) stands.same;
  }
