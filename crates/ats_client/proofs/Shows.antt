-- A slot shows its term or does not.
use Rattle.std.proofs.Common.{◌≡◌, ◌⊎◌, ◌+◌, ℕ, List, Bool, true, false, Option, Some, None, slice_get, refl, ap, ◌∙◌, inl, inr, arith}
use Rattle.std.specs.Str.{bytes_eq}
use Rattle.std.specs.declared.cmp.Ordering.{Ordering}
use Rattle.std.specs.declared.cmp.Ordering.TheVariants.{Less, Equal, Greater}
use Rattle.std.proofs.lemmas.Bool.{cases_Bool, cases_order}
use Rattle.std.proofs.lemmas.Slice.Eq.{bytes_eq-Decides}
use Rattle.ats_terms.specs.Query.{byte_cmp}
use Rattle.ats_dict.specs.Dictionary.{IsBelow}
use Rattle.ats_proof.specs.declared.record.Slot.{Slot}
use Rattle.ats_client.specs.Slots.{Shown, IsAt, IsBetween, Shows, ShowsTerm}

-- two terms are the same or not
pub same_or_other : (a b : List ℕ) → (a ≡ b) ⊎ (a ≡ b → ⊥)
same_or_other a b = elim (cases_Bool (bytes_eq a b)) [
  | inl same ↦ inl ((bytes_eq-Decides a b).0 same)
  | inr other ↦ inr (λ same. let yes = (bytes_eq-Decides a b).1 same in absurd (cc (yes, other)))
]

less_or_not : (o : Ordering) → (o ≡ Less) ⊎ (o ≡ Less → ⊥)
less_or_not Less = inl refl
less_or_not Equal = inr (λ is. absurd (cc))
less_or_not Greater = inr (λ is. absurd (cc))

next_or_not : (a b : ℕ) → (a ≡ b) ⊎ (a ≡ b → ⊥)
next_or_not a b = elim (cases_order a b) [
  | inl same ↦ inl same
  | inr (inl less) ↦ inr (λ same. absurd (omega (arith, less, same)))
  | inr (inr more) ↦ inr (λ same. absurd (omega (arith, more, same)))
]

module _ (leaves : List Shown) (term : List ℕ) (place : ℕ) where
  at_or_not : (o : Option Shown) → slice_get leaves place ≡ o → IsAt leaves term place ⊎ (IsAt leaves term place → ⊥)
  at_or_not None is = inr (λ (at : IsAt leaves term place). let there = at.there in absurd (cc (there, is)))
  at_or_not (Some leaf) is = elim (same_or_other leaf.term term) [
    | inl same ↦ inl (record { leaf = leaf; there = is; same = same })
    | inr other ↦ inr (λ (at : IsAt leaves term place).
        let there = at.there in
        let one : leaf ≡ at.leaf = cc (there, is) in
        other (ap (λ (s : Shown). s.term) one ∙ at.same))
  ]

  -- what lies between two leaves, part by part
  record Lies (lower upper : Shown) : Type 0 where
    neighbours : upper.position ≡ lower.position + 1
    above : IsBelow lower.term term
    below : IsBelow term upper.term

  lies_or_not : (lower upper : Shown) → Lies lower upper ⊎ (Lies lower upper → ⊥)
  lies_or_not lower upper = elim (next_or_not upper.position (lower.position + 1)) [
    | inr apart ↦ inr (λ (lies : Lies lower upper). apart lies.neighbours)
    | inl neighbours ↦ elim (less_or_not (byte_cmp lower.term term)) [
      | inr not_above ↦ inr (λ (lies : Lies lower upper). not_above lies.above)
      | inl above ↦ elim (less_or_not (byte_cmp term upper.term)) [
        | inr not_below ↦ inr (λ (lies : Lies lower upper). not_below lies.below)
        | inl below ↦ inl (record { neighbours = neighbours; above = above; below = below })
      ]
    ]
  ]

  between_or_not : (o next : Option Shown) → slice_get leaves place ≡ o → slice_get leaves (place + 1) ≡ next
      → IsBetween leaves term place ⊎ (IsBetween leaves term place → ⊥)
  between_or_not None next is is_next = inr (λ (at : IsBetween leaves term place). let there = at.there in absurd (cc (there, is)))
  between_or_not (Some lower) None is is_next = inr (λ (at : IsBetween leaves term place). let there = at.next in absurd (cc (there, is_next)))
  between_or_not (Some lower) (Some upper) is is_next = elim (lies_or_not lower upper) [
    | inl lies ↦ inl (record {
      lower = lower;
      upper = upper;
      there = is;
      next = is_next;
      neighbours = lies.neighbours;
      above = lies.above;
      below = lies.below;
    })
    | inr not_so ↦ inr (λ (at : IsBetween leaves term place).
        let there = at.there in
        let there_next = at.next in
        let low : at.lower ≡ lower = cc (there, is) in
        let high : at.upper ≡ upper = cc (there_next, is_next) in
        not_so (rw (← low, ← high) (record { neighbours = at.neighbours; above = at.above; below = at.below })))
  ]

  shows_or_not : (present : Bool) → Shows present leaves term place ⊎ (Shows present leaves term place → ⊥)
  shows_or_not true = at_or_not (slice_get leaves place) refl
  shows_or_not false = between_or_not (slice_get leaves place) (slice_get leaves (place + 1)) refl refl

pub shows_term_or_not : (leaves : List Shown) (term : List ℕ) (slot : Slot) → ShowsTerm leaves term slot ⊎ (ShowsTerm leaves term slot → ⊥)
shows_term_or_not leaves term slot = shows_or_not leaves term slot.index slot.present
