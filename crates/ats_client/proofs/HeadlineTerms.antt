-- The present terms of a proof, each from its pair in the query, its slot and its prefix.
use Rattle.std.proofs.Common.{◌≡◌, ◌+◌, ◌∙◌, ℕ, suc, true, false, cond, List, [], ◌∷◌, length, drop, slice_get, Some, refl, sym, ap, ap₂, subst, inl, inr, arith}
use Rattle.std.specs.List.{All, sum_by}
use Rattle.std.proofs.lemmas.Bool.{cases_Bool}
use Rattle.std.proofs.lemmas.List.Elements.{All-nil, All-cons, All-head, All-tail}
use Rattle.std.proofs.lemmas.List.Sums.{sum_by-cons}
use Rattle.ats_proof.specs.declared.record.Slot.{Slot}
use Rattle.ats_proof.specs.Value.{ShownEntry, Prefix, present_in, kind_of_slot}
use Rattle.ats_proof.specs.Ranges.{IsPrefixInRange}
use Rattle.ats_client.specs.Presented.{Presented, presented_from, entry_at, first_prefix}

-- the present term of a pair, a slot and a prefix
abbrev pub present_one : List ShownEntry → ℕ → List ℕ × ℕ → Slot → Prefix → Presented
present_one dict number pair slot prefix = record { number = number; weight = pair.1; entry = entry_at dict slot.index; prefix = prefix }

-- what holds of each present pair at its place holds of all present terms from a number on
abbrev pub HoldsPresent : (Presented → Type 0) → List ShownEntry → ℕ → List (List ℕ × ℕ) → List Slot → Type 0
HoldsPresent P dict n query slots = (j : ℕ) (pair : List ℕ × ℕ) (slot : Slot) (prefix : Prefix) → slice_get query j ≡ Some pair
    → slice_get slots j ≡ Some slot → slot.present ≡ true → IsPrefixInRange prefix → P (present_one dict (n + j) pair slot prefix)

later : (P : Presented → Type 0) (dict : List ShownEntry) (n : ℕ) (pair : List ℕ × ℕ) (query : List (List ℕ × ℕ)) (slot : Slot) (slots : List Slot)
    → HoldsPresent P dict n (pair ∷ query) (slot ∷ slots) → HoldsPresent P dict (n + 1) query slots
later P dict n pair query slot slots each j p s prefix at spot present range =
    let next : n + suc j ≡ n + 1 + j = omega arith in
    subst (λ m. P (present_one dict m p s prefix)) next (each (suc j) p s prefix at spot present range)

first : (P : Presented → Type 0) (dict : List ShownEntry) (n : ℕ) (pair : List ℕ × ℕ) (query : List (List ℕ × ℕ)) (slot : Slot) (slots : List Slot) (prefix : Prefix)
    → HoldsPresent P dict n (pair ∷ query) (slot ∷ slots) → slot.present ≡ true → IsPrefixInRange prefix → P (present_one dict n pair slot prefix)
first P dict n pair query slot slots prefix each present range =
    let here : n + 0 ≡ n = omega arith in
    subst (λ m. P (present_one dict m pair slot prefix)) here (each 0 pair slot prefix refl refl present range)

pub kind_absent : (slot : Slot) (slots : List Slot) (n : ℕ) → slot.present ≡ false → present_in (slot ∷ slots) ≡ n → present_in slots ≡ n
kind_absent slot slots n absent all =
    let front = sum_by-cons kind_of_slot slot slots in
    let kind : kind_of_slot slot ≡ 0 = ap (λ b. cond b 1 0) absent in
    omega (arith, front, kind, all)

pub kind_present : (slot : Slot) (slots : List Slot) (n : ℕ) → slot.present ≡ true → present_in (slot ∷ slots) ≡ n → 1 + present_in slots ≡ n
kind_present slot slots n present all =
    let front = sum_by-cons kind_of_slot slot slots in
    let kind : kind_of_slot slot ≡ 1 = ap (λ b. cond b 1 0) present in
    omega (arith, front, kind, all)

pub each_presented : (P : Presented → Type 0) (dict : List ShownEntry) (n : ℕ) (query : List (List ℕ × ℕ)) (slots : List Slot) (lists : List Prefix)
    → present_in slots ≡ length lists → All IsPrefixInRange lists → HoldsPresent P dict n query slots → All P (presented_from dict n query slots lists)
each_presented P dict n [] slots lists size range each = All-nil P
each_presented P dict n (pair ∷ query) [] lists size range each = All-nil P
each_presented P dict n (pair ∷ query) (slot ∷ slots) [] size range each =
    elim (cases_Bool slot.present) [
      | inl is ↦ absurd (omega (arith, kind_present slot slots 0 is size))
      | inr absent ↦ rw absent
          (each_presented P dict (n + 1) query slots [] (kind_absent slot slots 0 absent size) range (later P dict n pair query slot slots each))
    ]
each_presented P dict n (pair ∷ query) (slot ∷ slots) (prefix ∷ lists) size range each =
    elim (cases_Bool slot.present) [
      | inl is ↦
          let fewer : present_in slots ≡ length lists = omega (arith, kind_present slot slots (length (prefix ∷ lists)) is size) in
          rw is (All-cons P (present_one dict n pair slot prefix) (presented_from dict (n + 1) query slots lists)
          (first P dict n pair query slot slots prefix each is (All-head IsPrefixInRange prefix lists range))
          (each_presented P dict (n + 1) query slots lists fewer (All-tail IsPrefixInRange prefix lists range) (later P dict n pair query slot slots each)))
      | inr absent ↦ rw absent
          (each_presented P dict (n + 1) query slots (prefix ∷ lists) (kind_absent slot slots (length (prefix ∷ lists)) absent size) range (later P dict n pair query slot slots each))
    ]

-- what present terms add, if absent pairs add nothing
abbrev pub AddsPresent : (List ℕ × ℕ → ℕ) → (Presented → ℕ) → List ShownEntry → ℕ → List (List ℕ × ℕ) → List Slot → Type 0
AddsPresent F G dict n query slots = (j : ℕ) (pair : List ℕ × ℕ) (slot : Slot) (prefix : Prefix) → slice_get query j ≡ Some pair
    → slice_get slots j ≡ Some slot → slot.present ≡ true → G (present_one dict (n + j) pair slot prefix) ≡ F pair

abbrev pub AddsNoAbsent : (List ℕ × ℕ → ℕ) → List (List ℕ × ℕ) → List Slot → Type 0
AddsNoAbsent F query slots = (j : ℕ) (pair : List ℕ × ℕ) (slot : Slot) → slice_get query j ≡ Some pair
    → slice_get slots j ≡ Some slot → slot.present ≡ false → F pair ≡ 0

next_adds : (F : List ℕ × ℕ → ℕ) (G : Presented → ℕ) (dict : List ShownEntry) (n : ℕ) (pair : List ℕ × ℕ) (query : List (List ℕ × ℕ)) (slot : Slot) (slots : List Slot)
    → AddsPresent F G dict n (pair ∷ query) (slot ∷ slots) → AddsPresent F G dict (n + 1) query slots
next_adds F G dict n pair query slot slots adds j p s prefix at spot present =
    let next : n + suc j ≡ n + 1 + j = omega arith in
    subst (λ m. G (present_one dict m p s prefix) ≡ F p) next (adds (suc j) p s prefix at spot present)

pub sum_presented : (F : List ℕ × ℕ → ℕ) (G : Presented → ℕ) (dict : List ShownEntry) (n : ℕ) (query : List (List ℕ × ℕ)) (slots : List Slot) (lists : List Prefix)
    → length slots ≡ length query → AddsPresent F G dict n query slots → AddsNoAbsent F query slots
    → sum_by F query ≡ sum_by G (presented_from dict n query slots lists)
sum_presented F G dict n [] slots lists size adds none = refl
sum_presented F G dict n (pair ∷ query) [] lists size adds none = absurd (omega (arith, size))
sum_presented F G dict n (pair ∷ query) (slot ∷ slots) lists size adds none =
    let fewer : length slots ≡ length query = omega (arith, size) in
    let adds_later : AddsPresent F G dict (n + 1) query slots = next_adds F G dict n pair query slot slots adds in
    let none_later : AddsNoAbsent F query slots = λ j p s at spot absent. none (suc j) p s at spot absent in
    let front = sum_by-cons F pair query in
    elim (cases_Bool slot.present) [
      | inl is ↦
          let here : n + 0 ≡ n = omega arith in
          let one : Presented = present_one dict n pair slot (first_prefix lists) in
          let same : G one ≡ F pair = subst (λ m. G (present_one dict m pair slot (first_prefix lists)) ≡ F pair) here (adds 0 pair slot (first_prefix lists) refl refl is) in
          rw is (front ∙ ap₂ (λ a b. a + b) (sym same) (sum_presented F G dict (n + 1) query slots (drop 1 lists) fewer adds_later none_later)
          ∙ sym (sum_by-cons G one (presented_from dict (n + 1) query slots (drop 1 lists))))
      | inr absent ↦
          let nothing : F pair ≡ 0 = none 0 pair slot refl refl absent in
          rw absent (omega (arith, front, nothing, sum_presented F G dict (n + 1) query slots lists fewer adds_later none_later))
    ]
