-- Leaves that are left of a section, and when a slot shows a term.
use Rattle.std.proofs.Common.{◌≡◌, ℕ, zero, suc, ◌+◌, ◌↔◌, List, [], ◌∷◌, map, drop, Option, Some, None, option_map, slice_get, ◌⊎◌, inl, inr, refl, sym, ap, subst, ◌∙◌, Bool, true, false, IsTrue}
use Rattle.std.specs.Str.{bytes_eq}
use Rattle.std.proofs.lemmas.List.{drop-drop}
use Rattle.std.proofs.lemmas.Option.{slice_get-map}
use Rattle.std.proofs.lemmas.Slice.Eq.{bytes_eq-Decides}
use Rattle.std.proofs.Math.Seq.{drop-nil}
use Rattle.ats_dict.specs.Dictionary.{IsBelow}
use Rattle.ats_proof.specs.declared.record.Slot.{Slot}
use Rattle.ats_client.specs.Slots.{Shown, IsAt, IsBetween, ShowsTerm}

-- the first of those left is the one at the place
pub first_left : {X : Type 0} (place : ℕ) (xs : List X) → slice_get (drop place xs) 0 ≡ slice_get xs place
first_left zero [] = refl
first_left zero (x ∷ xs) = refl
first_left (suc place) [] = refl
first_left (suc place) (x ∷ xs) = first_left place xs

-- if nothing is left, nothing is left further on
pub ends : {X : Type 0} (xs left after : List X) (i more : ℕ) (some : Bool) → some ≡ false → IsTrue some ⊎ (left ≡ []) → after ≡ drop 1 left → left ≡ drop i xs
    → after ≡ drop (i + more) xs
ends xs left after i more some none (inl seen) next is = absurd (cc)
ends xs left after i more some none (inr nothing) next is =
    next ∙ ap (drop 1) nothing ∙ sym (drop-nil more) ∙ ap (drop more) (sym nothing ∙ is) ∙ drop-drop more i xs

pub one_more : {X : Type 0} (xs left after : List X) (i : ℕ) → after ≡ drop 1 left → left ≡ drop i xs → after ≡ drop (i + 1) xs
one_more xs left after i next is = next ∙ ap (drop 1) is ∙ drop-drop 1 i xs

-- ---- what a slot shows

only_leaf : (a b : Shown) (o : Option Shown) → o ≡ Some a → o ≡ Some b → a ≡ b
only_leaf a b o p q = cc

module _ {X : Type 0} (read : X → Shown) (leaves : List X) (term : List ℕ) where
  -- what a leaf at a place shows
  at_place : (place : ℕ) (x : X) → Some x ≡ slice_get leaves place → slice_get (map read leaves) place ≡ Some (read x)
  at_place place x is = slice_get-map read leaves place ∙ ap (option_map read) (sym is)

  no_place : (place : ℕ) → None ≡ slice_get leaves place → slice_get (map read leaves) place ≡ None
  no_place place is = slice_get-map read leaves place ∙ ap (option_map read) (sym is)

  pub present_at : (slot : Slot) (x : X) (eq : Bool) → slot.present ≡ true → Some x ≡ slice_get leaves slot.index
      → eq ≡ bytes_eq (read x).term term → IsTrue eq ↔ ShowsTerm (map read leaves) term slot
  present_at slot x eq present is test =
      let place = at_place slot.index x is in
      rw present (
        λ yes. record { leaf = read x; there = place; same = (bytes_eq-Decides (read x).term term).0 (sym test ∙ yes) },
        λ (at : IsAt (map read leaves) term slot.index).
            let same : at.leaf ≡ read x = only_leaf at.leaf (read x) _ at.there place in
            test ∙ (bytes_eq-Decides (read x).term term).1 (sym (ap (λ (s : Shown). s.term) same) ∙ at.same),
      )

  pub absent_at : (slot : Slot) (x next : X) (lies : Bool) → slot.present ≡ false → Some x ≡ slice_get leaves slot.index
      → Some next ≡ slice_get leaves (slot.index + 1)
      → IsTrue lies ↔ (((read next).position ≡ (read x).position + 1) × IsBelow (read x).term term × IsBelow term (read next).term)
      → IsTrue lies ↔ ShowsTerm (map read leaves) term slot
  absent_at slot x next lies absent is is_next test =
      let place = at_place slot.index x is in
      let place_next = at_place (slot.index + 1) next is_next in
      rw absent (
        λ yes. let all = test.0 yes in record { lower = read x; upper = read next; there = place; next = place_next; neighbours = all.0; above = all.1; below = all.2 },
        λ (at : IsBetween (map read leaves) term slot.index).
            let low : at.lower ≡ read x = only_leaf at.lower (read x) _ at.there place in
            let high : at.upper ≡ read next = only_leaf at.upper (read next) _ at.next place_next in
            test.1 (
              subst (λ (s : Shown). (read next).position ≡ s.position + 1) low (subst (λ (s : Shown). s.position ≡ at.lower.position + 1) high at.neighbours),
              subst (λ (s : Shown). IsBelow s.term term) low at.above,
              subst (λ (s : Shown). IsBelow term s.term) high at.below,
            ),
      )

  -- no leaf follows the one that an absent term is shown by
  pub no_next : (slot : Slot) → slot.present ≡ false → None ≡ slice_get leaves (slot.index + 1) → IsTrue false ↔ ShowsTerm (map read leaves) term slot
  no_next slot absent is =
      let gone = no_place (slot.index + 1) is in
      rw absent (λ yes. absurd (cc), λ (at : IsBetween (map read leaves) term slot.index). let there = at.next in absurd (cc))

-- after the first of those left at a place is removed, the first of those left is the next one
pub next_left : {X : Type 0} (leaves at after : List X) (place : ℕ) (first : Option X) → at ≡ drop place leaves → after ≡ drop 1 at → first ≡ slice_get after 0
    → first ≡ slice_get leaves (place + 1)
next_left leaves at after place first is next one =
    one ∙ ap (λ l. slice_get l 0) (next ∙ ap (drop 1) is ∙ drop-drop 1 place leaves) ∙ first_left (place + 1) leaves
