-- Items between two sentinels, by their positions.
use Rattle.std.proofs.Common.{◌≡◌, ◌≢◌, ◌<◌, ◌≤◌, ◌+◌, ℕ, zero, suc, List, [], ◌∷◌, ◌++◌, length, get_or, refl, sym, ap, ◌∙◌, arith, length-append, inl, inr, nat_cmp, Less}
use Rattle.std.specs.List.{All}
use Rattle.std.proofs.lemmas.Bool.{cases_lt}
use Rattle.std.proofs.lemmas.Bool.Decides.{nat_tests}
use Rattle.std.proofs.lemmas.List.{get_or_append_left, get_or_at, get_or_default}
use Rattle.std.specs.Ordering.{ordering_then}
use Rattle.std.specs.Cmp.Lexicographic.{slice_cmp}
use Rattle.ats_terms.specs.Terms.{IsTerm}
use Rattle.ats_terms.specs.Order.{IsBelow}
use Rattle.ats_terms.specs.Found.{RiseBetweenSentinels, StandsAt}

-- the low sentinel is below each term that is not empty
pub low_below : (term : List ℕ) → 1 ≤ length term → IsBelow [] term
low_below [] some = absurd (omega arith)
low_below (x ∷ term) some = refl

-- the high sentinel is above each term that does not begin with 0xFF
pub high_above : (term : List ℕ) → 1 ≤ length term → get_or term 0 0 < 255 → IsBelow term (255 ∷ [])
high_above [] some front = absurd (omega arith)
high_above (x ∷ term) some front =
    let less : nat_cmp x 255 ≡ Less = grind (arith, nat_tests) in
    ap (λ o. ordering_then o (slice_cmp nat_cmp term [])) less

below_by : (a b x y : List ℕ) → a ≡ x → b ≡ y → IsBelow x y → IsBelow a b
below_by a b x y first second below = rw (first, second) below

module _ {X : Type 0} (low high : X) (items : List X) where
  -- an item is one position past its place, after the low sentinel
  pub inner_at : (i : ℕ) (d : X) → i < length items → get_or (low ∷ items ++ high ∷ []) (suc i) low ≡ get_or items i d
  inner_at i d inside = get_or_append_left items (high ∷ []) low i inside ∙ get_or_default items i low d inside

  pub last_at : (p : ℕ) → p ≡ length items + 1 → get_or (low ∷ items ++ high ∷ []) p low ≡ high
  last_at p is =
      let past : p ≡ suc (length items) = omega arith in
      rw past (get_or_at items high [] low (length items) refl)

  pub length-between : length (low ∷ items ++ high ∷ []) ≡ length items + 2
  length-between = omega (arith, length-append items (high ∷ []))

  -- the term of each item, and so of each position
  module _ (term_of : X → List ℕ) where
    abbrev at : ℕ → List ℕ
    at p = term_of (get_or (low ∷ items ++ high ∷ []) p low)

    at_item : (i : ℕ) (d : X) → i < length items → at (suc i) ≡ term_of (get_or items i d)
    at_item i d inside = ap term_of (inner_at i d inside)

    -- a term that is no item's is at no position
    pub nowhere : (term : List ℕ) → All (λ x. term_of x ≢ term) items → (q : ℕ) → ¬ StandsAt at (length items) term q
    nowhere term none zero stands = absurd (omega (arith, stands.some))
    nowhere term none (suc i) stands =
        let inside : i < length items = omega (arith, stands.within) in
        none i low inside (sym (at_item i low inside) ∙ stands.same)

    pub none_of : (term : List ℕ) → ((q : ℕ) → ¬ StandsAt at (length items) term q) → All (λ x. term_of x ≢ term) items
    none_of term absent k d inside same =
        absent (suc k) (record { some = omega arith; within = omega arith; same = at_item k d inside ∙ same })

    module _ (first : term_of low ≡ []) (last : term_of high ≡ 255 ∷ []) (each : All (λ x. IsTerm (term_of x)) items)
        (rises : (i j : ℕ) → i < j → j < length items → IsBelow (term_of (get_or items i low)) (term_of (get_or items j low))) where
      at_end : (p : ℕ) → p ≡ length items + 1 → at p ≡ 255 ∷ []
      at_end p is = ap term_of (last_at p is) ∙ last

      rise : (p q : ℕ) → p < q → q < length items + 2 → IsBelow (at p) (at q)
      rise p zero up inside = absurd (omega arith)
      rise zero (suc j) up inside = elim (cases_lt j (length items)) [
        | inl within ↦ below_by (at zero) (at (suc j)) [] (term_of (get_or items j low)) first (at_item j low within)
            (low_below (term_of (get_or items j low)) (each j low within).some)
        | inr past ↦ below_by (at zero) (at (suc j)) [] (255 ∷ []) first (at_end (suc j) (omega arith)) refl
      ]
      rise (suc i) (suc j) up inside =
          let within : i < length items = omega arith in
          let term = each i low within in
          elim (cases_lt j (length items)) [
            | inl in_order ↦ below_by (at (suc i)) (at (suc j)) (term_of (get_or items i low)) (term_of (get_or items j low))
                (at_item i low within) (at_item j low in_order) (rises i j (omega arith) in_order)
            | inr past ↦ below_by (at (suc i)) (at (suc j)) (term_of (get_or items i low)) (255 ∷ [])
                (at_item i low within) (at_end (suc j) (omega arith)) (high_above (term_of (get_or items i low)) term.some term.front)
          ]

      -- the terms of all positions rise strictly if those of the items do
      pub rise_between : RiseBetweenSentinels at (length items)
      rise_between = record { low = first; high = at_end (length items + 1) refl; rises = rise }
