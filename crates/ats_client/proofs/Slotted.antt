-- Which slots show their terms, term by term.
use Rattle.std.proofs.Common.{◌≡◌, ◌↔◌, ◌<◌, ◌+◌, ℕ, List, Some, slice_get, Bool, false, IsTrue, ap, subst, below_more}
use Rattle.std.proofs.lemmas.Option.{get_or_from_slice_get}
use Rattle.ats_proof.specs.declared.record.Slot.{Slot}
use Rattle.ats_proof.specs.Value.{ShownEntry, Proof}
use Rattle.ats_client.specs.Slots.{Shown, ShowsTerm}
use Rattle.ats_commit.specs.Ours.{asked_term}
use Rattle.ats_client.specs.Groups.{dict_terms, slot_at, IsSlotRight}

-- the slot at a place, if it is right, shows its term
pub slot_shows : (query : List (List ℕ × ℕ)) (proof : Proof) (i : ℕ) (slot : Slot) → slice_get proof.slots i ≡ Some slot → IsSlotRight query proof i
    → ShowsTerm (dict_terms proof.dict) (asked_term query i) slot
slot_shows query proof i slot is right =
    let slot_is : slot_at proof.slots i ≡ slot = get_or_from_slice_get proof.slots i slot (record { present = false; index = 0 }) is in
    subst (λ (s : Slot). ShowsTerm (dict_terms proof.dict) (asked_term query i) s) slot_is right

-- a test of the slot that was read is a test of the slot at the place
pub test_right : (slots : List Slot) (i : ℕ) (shown leaves : List Shown) (term wanted : List ℕ) (slot : Slot) (shows : Bool)
    → shown ≡ leaves → term ≡ wanted → slice_get slots i ≡ Some slot
    → IsTrue shows ↔ ShowsTerm shown term slot → IsTrue shows ↔ ShowsTerm leaves wanted (slot_at slots i)
test_right slots i shown leaves term wanted slot shows same_leaves same_term same_slot test =
    let slot_is : slot_at slots i ≡ slot = get_or_from_slice_get slots i slot (record { present = false; index = 0 }) same_slot in
    rw (slot_is, ← same_term, ← same_leaves) test

pub slot_right : (query : List (List ℕ × ℕ)) (proof : Proof) (i : ℕ) (dict : List ShownEntry) (term : List ℕ) (slot : Slot) (shows : Bool)
    → dict ≡ proof.dict → term ≡ asked_term query i → slice_get proof.slots i ≡ Some slot
    → IsTrue shows ↔ ShowsTerm (dict_terms dict) term slot → IsTrue shows ↔ IsSlotRight query proof i
slot_right query proof i dict term slot shows same_dict same_term same_slot test =
    test_right proof.slots i (dict_terms dict) (dict_terms proof.dict) term (asked_term query i) slot shows (ap dict_terms same_dict) same_term same_slot test

pub slots_more : (query : List (List ℕ × ℕ)) (proof : Proof) (i : ℕ) → ((j : ℕ) → j < i → IsSlotRight query proof j) → IsSlotRight query proof i
    → (j : ℕ) → j < i + 1 → IsSlotRight query proof j
slots_more query proof i before here = below_more _ _ before here
