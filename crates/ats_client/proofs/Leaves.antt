-- Shown leaves of a section with their terms: of the dictionary, or of a document's terms.
use Rattle.std.proofs.Common.{◌≡◌, ◌+◌, ◌∙◌, ℕ, List, map, slice_get, Option, Some, None, option_map, true, false, refl, sym, ap, subst}
use Rattle.std.proofs.lemmas.Option.{slice_get-map}
use Rattle.ats_dict.specs.Dictionary.{IsBelow}
use Rattle.ats_proof.specs.declared.record.Slot.{Slot}
use Rattle.ats_tree.specs.Shown as tree
use Rattle.ats_client.specs.Slots.{Shown, IsAt, IsBetween, ShowsTerm}
use Rattle.ats_client.specs.Strings.{AreLeavesOf}
use Rattle.ats_client.proofs.TermsLeft.{at_place}

-- what is read of a changed list is the change of what is read
was_mapped : {X Y : Type 0} (f : X → Y) (o : Option X) (y : Y) → option_map f o ≡ Some y → (x : X) × (o ≡ Some x) × (f x ≡ y)
was_mapped f None y is = absurd (cc)
was_mapped f (Some x) y is = (x, refl, cc)

-- a leaf that is a tree's own is at its position
pub leaf_own : {X : Type 0} (hashed : X → tree.Shown) (own : List (List ℕ)) (leaves : List X) (place : ℕ) (x : X) → AreLeavesOf own (map hashed leaves)
    → slice_get leaves place ≡ Some x → slice_get own (hashed x).0 ≡ Some (hashed x).1
leaf_own hashed own leaves place x are is =
    at_place (λ (s : tree.Shown). slice_get own s.0 ≡ Some s.1) (map hashed leaves) place (hashed x) are
    (slice_get-map hashed leaves place ∙ ap (option_map hashed) is)

module _ {X : Type 0} (read : X → Shown) (leaves : List X) (term : List ℕ) (slot : Slot) (shows : ShowsTerm (map read leaves) term slot) where
  leaf_shown : (place : ℕ) (leaf : Shown) → slice_get (map read leaves) place ≡ Some leaf → (x : X) × (slice_get leaves place ≡ Some x) × (read x ≡ leaf)
  leaf_shown place leaf there = was_mapped read (slice_get leaves place) leaf (sym (slice_get-map read leaves place) ∙ there)

  -- the leaf of a present term
  pub present_leaf : slot.present ≡ true → (x : X) × (slice_get leaves slot.index ≡ Some x) × ((read x).term ≡ term)
  present_leaf present =
      let at : IsAt (map read leaves) term slot.index = rw present at shows in
      let was = leaf_shown slot.index at.leaf at.there in
      (was.0, was.1, ap (λ (s : Shown). s.term) was.2 ∙ at.same)

  -- the leaves on both sides of an absent term
  pub record AreAround (lower upper : X) : Type 0 where
    pub first : slice_get leaves slot.index ≡ Some lower
    pub second : slice_get leaves (slot.index + 1) ≡ Some upper
    pub neighbours : (read upper).position ≡ (read lower).position + 1
    pub above : IsBelow (read lower).term term
    pub below : IsBelow term (read upper).term

  pub absent_leaves : slot.present ≡ false → (lower : X) × (upper : X) × AreAround lower upper
  absent_leaves absent =
      let at : IsBetween (map read leaves) term slot.index = rw absent at shows in
      let low = leaf_shown slot.index at.lower at.there in
      let high = leaf_shown (slot.index + 1) at.upper at.next in (
        low.0,
        high.0,
        record {
          first = low.1;
          second = high.1;
          neighbours = ap (λ (s : Shown). s.position) high.2 ∙ at.neighbours ∙ ap (λ (s : Shown). s.position + 1) (sym low.2);
          above = subst (λ (s : Shown). IsBelow s.term term) (sym low.2) at.above;
          below = subst (λ (s : Shown). IsBelow term s.term) (sym high.2) at.below;
        },
      )
