-- The place of a walk, before the places of slots that never fall.
use Rattle.std.proofs.Common.{◌≡◌, ◌<◌, ◌≤◌, ◌+◌, ℕ, List, length, map, get_or, slice_get, Some, false, ap, arith}
use Rattle.std.proofs.Math.ListN.{get_or-map}
use Rattle.std.specs.List.Sorted.{IsNonDecreasing}
use Rattle.std.proofs.lemmas.List.{length-map}
use Rattle.std.proofs.lemmas.Option.{get_or_from_slice_get}
use Rattle.ats_proof.specs.declared.record.Slot.{Slot}
use Rattle.ats_client.specs.Groups.{slot_at}

-- the place is not after that of any slot from a number on
abbrev pub IsBefore : ℕ → List Slot → ℕ → Type 0
IsBefore place slots i = (j : ℕ) → i ≤ j → j < length slots → place ≤ (slot_at slots j).index

pub before_first : (place : ℕ) (slots : List Slot) → place ≡ 0 → IsBefore place slots 0
before_first place slots none j from low = omega (arith, none)

-- the slot with a number
pub index_is : (slots : List Slot) (i : ℕ) (slot : Slot) → slice_get slots i ≡ Some slot → (slot_at slots i).index ≡ slot.index
index_is slots i slot is =
    ap (λ (s : Slot). s.index) (get_or_from_slice_get slots i slot (record { present = false; index = 0 }) is)

pub before_next : (place : ℕ) (slots : List Slot) (i : ℕ) → IsNonDecreasing (map (λ (slot : Slot). slot.index) slots) → place ≤ (slot_at slots i).index
    → IsBefore place slots (i + 1)
before_next place slots i rise here j from low =
    let index : Slot → ℕ = λ slot. slot.index in
    let none : Slot = record { present = false; index = 0 } in
    let at : (k : ℕ) → get_or (map index slots) k 0 ≡ (slot_at slots k).index = λ k. get_or-map index slots k none in
    let up = rise i j 0 (omega (arith, from)) (omega (arith, low, length-map slots index)) in
    omega (arith, here, up, at i, at j)
