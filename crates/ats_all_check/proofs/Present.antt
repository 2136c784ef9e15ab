-- Slots, and whether all say that their terms are present.
use Rattle.std.proofs.Common.{◌≡◌, ◌+◌, ◌∙◌, ◌&&◌, ℕ, suc, Bool, true, false, cond, List, [], ◌∷◌, length, take, slice_get, Some, refl, ap, ap₂, inl, inr, arith}
use Rattle.std.specs.List.{range_with_len}
use Rattle.std.proofs.lemmas.Bool.{cases_Bool}
use Rattle.std.proofs.lemmas.List.Folds.{list_all_at, list_all_more}
use Rattle.std.proofs.lemmas.List.Sums.{sum_by-cons}
use Rattle.std.proofs.lemmas.Option.{get_or_from_slice_get, slice_get_within}
use Rattle.ats_proof.specs.declared.record.Slot.{Slot}
use Rattle.ats_proof.specs.Value.{present_in, kind_of_slot}
use Rattle.ats_client.specs.Documents.{present_from}
use Rattle.ats_all_check.specs.Documents.{are_present}

abbrev is_present : Slot → Bool
is_present slot = slot.present

-- one slot that says that its term is absent settles it
pub some_absent : (slots : List Slot) (i : ℕ) (slot : Slot) → slice_get slots i ≡ Some slot → slot.present ≡ false → are_present slots ≡ false
some_absent slots i slot there absent =
    list_all_at is_present slots i slot (slice_get_within slots i slot there) (ap is_present (get_or_from_slice_get slots i slot slot there) ∙ absent)

-- one more slot that says that its term is present
pub one_more : (slots : List Slot) (i : ℕ) (slot : Slot) → slice_get slots i ≡ Some slot → slot.present ≡ true → are_present (take i slots) ≡ true
    → are_present (take (i + 1) slots) ≡ true
one_more slots i slot there present before =
    list_all_more is_present slots i slot (slice_get_within slots i slot there)
    ∙ ap₂ (λ a b. a && b) before (ap is_present (get_or_from_slice_get slots i slot slot there) ∙ present)

-- a slot that says that its term is absent
pub record HasAbsent (slots : List Slot) : Type 0 where
  pub place : ℕ
  pub slot : Slot
  pub there : slice_get slots place ≡ Some slot
  pub absent : slot.present ≡ false

pub absent_at : (slots : List Slot) → are_present slots ≡ false → HasAbsent slots
absent_at [] not = absurd (cc)
absent_at (slot ∷ slots) not = elim (cases_Bool slot.present) [
  | inl is ↦
      let later = absent_at slots (rw is at not) in
      record { place = suc later.place; slot = later.slot; there = later.there; absent = later.absent }
  | inr absent ↦ record { place = 0; slot = slot; there = refl; absent = absent }
]

pub and_first : (a b : Bool) → (a && b) ≡ true → a ≡ true
and_first true b is = refl
and_first false b is = is

pub and_second : (a b : Bool) → (a && b) ≡ true → b ≡ true
and_second true b is = is
and_second false b is = absurd (cc)

-- if all slots say that their terms are present, these are the terms from the first number on
pub all_numbers : (first : ℕ) (slots : List Slot) → are_present slots ≡ true → present_from first slots ≡ range_with_len first (length slots)
all_numbers first [] is = refl
all_numbers first (slot ∷ slots) is =
    let here : slot.present ≡ true = and_first slot.present (are_present slots) is in
    rw here (ap (λ (ns : List ℕ). first ∷ ns) (all_numbers (first + 1) slots (and_second slot.present (are_present slots) is)))

pub all_counted : (slots : List Slot) → are_present slots ≡ true → present_in slots ≡ length slots
all_counted [] is = refl
all_counted (slot ∷ slots) is =
    let here : slot.present ≡ true = and_first slot.present (are_present slots) is in
    let one : kind_of_slot slot ≡ 1 = ap (λ b. cond b 1 0) here in
    omega (arith, sum_by-cons kind_of_slot slot slots, one, all_counted slots (and_second slot.present (are_present slots) is))
