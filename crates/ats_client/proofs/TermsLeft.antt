-- The present terms from a number on.
use Rattle.std.proofs.Common.{◌≡◌, ◌<◌, ◌+◌, ◌∙◌, ℕ, suc, true, false, List, [], ◌∷◌, length, map, drop, slice_get, Some, None, option_map, sym, ap, ap₂, subst, arith, drop-cons, add-one, cond}
use Rattle.std.specs.List.{All}
use Rattle.std.proofs.lemmas.List.{length-drop, length-map, get_or-map}
use Rattle.std.proofs.lemmas.Option.{get_or_from_slice_get, slice_get_within, slice_get-map}
use Rattle.ats_dict.specs.Entry.{DictEntry}
use Rattle.ats_dict.specs.Dictionary.{low}
use Rattle.ats_proof.specs.declared.record.Slot.{Slot}
use Rattle.ats_proof.specs.Value.{ShownEntry, Prefix, present_in}
use Rattle.ats_client.specs.Presented.{Presented, presented_from, entry_at, first_prefix}
use Rattle.ats_client.proofs.HeadlineTerms.{kind_absent, kind_present}

-- what holds of all elements holds of the one at a place
pub at_place : {X : Type 0} (P : X → Type 0) (xs : List X) (i : ℕ) (x : X) → All P xs → slice_get xs i ≡ Some x → P x
at_place P xs i x all is = subst P (get_or_from_slice_get xs i x x is) (all i x (slice_get_within xs i x is))

-- what holds of all numbers that elements have holds of the elements by theirs
pub each_by : {X : Type 0} (P : ℕ → Type 0) (number : X → ℕ) (xs : List X) → All P (map number xs) → All (λ x. P (number x)) xs
each_by P number xs all k d low = subst P (get_or-map number xs k d (number d) low) (all k (number d) (omega (arith, low, length-map xs number)))

-- the items from a place on, if there is one at that place
pub at_front : {X : Type 0} (xs : List X) (i : ℕ) (x : X) → slice_get xs i ≡ Some x → drop i xs ≡ x ∷ drop (i + 1) xs
at_front xs i x is =
    let low : i < length xs = slice_get_within xs i x is in
    rw add-one (drop-cons xs i x low ∙ ap (λ y. y ∷ drop (suc i) xs) (get_or_from_slice_get xs i x x is))

pub none_present : (dict : List ShownEntry) (i : ℕ) (query : List (List ℕ × ℕ)) (slots : List Slot) (left : List Prefix) (pair : List ℕ × ℕ) (slot : Slot)
    → slice_get query i ≡ Some pair → slice_get slots i ≡ Some slot → slot.present ≡ false
    → presented_from dict i (drop i query) (drop i slots) left ≡ presented_from dict (i + 1) (drop (i + 1) query) (drop (i + 1) slots) left
none_present dict i query slots left pair slot is is_slot absent =
    ap₂ (λ q s. presented_from dict i q s left) (at_front query i pair is) (at_front slots i slot is_slot)
    ∙ ap (λ b. cond b (record { number = i; weight = pair.1; entry = entry_at dict slot.index; prefix = first_prefix left } ∷ presented_from dict (i + 1) (drop (i + 1) query) (drop (i + 1) slots) (drop 1 left))
    (presented_from dict (i + 1) (drop (i + 1) query) (drop (i + 1) slots) left)) absent

pub one_present : (dict : List ShownEntry) (i : ℕ) (query : List (List ℕ × ℕ)) (slots : List Slot) (left after : List Prefix) (pair : List ℕ × ℕ) (slot : Slot) (one : Presented)
    → slice_get query i ≡ Some pair → slice_get slots i ≡ Some slot → slot.present ≡ true
    → one ≡ record { number = i; weight = pair.1; entry = entry_at dict slot.index; prefix = first_prefix left }
    → after ≡ drop 1 left
    → presented_from dict i (drop i query) (drop i slots) left ≡ one ∷ presented_from dict (i + 1) (drop (i + 1) query) (drop (i + 1) slots) after
one_present dict i query slots left after pair slot one is is_slot present same passed =
    ap₂ (λ q s. presented_from dict i q s left) (at_front query i pair is) (at_front slots i slot is_slot)
    ∙ ap (λ b. cond b (record { number = i; weight = pair.1; entry = entry_at dict slot.index; prefix = first_prefix left } ∷ presented_from dict (i + 1) (drop (i + 1) query) (drop (i + 1) slots) (drop 1 left))
    (presented_from dict (i + 1) (drop (i + 1) query) (drop (i + 1) slots) left)) present
    ∙ ap₂ (λ p more. p ∷ presented_from dict (i + 1) (drop (i + 1) query) (drop (i + 1) slots) more) (sym same) (sym passed)

pub entry_there : (dict : List ShownEntry) (place : ℕ) (e : ShownEntry) → Some e ≡ slice_get dict place → e.entry ≡ entry_at dict place
entry_there dict place e is =
    let there : slice_get (map (λ (s : ShownEntry). s.entry) dict) place ≡ Some e.entry = slice_get-map (λ (s : ShownEntry). s.entry) dict place ∙ ap (option_map (λ (s : ShownEntry). s.entry)) (sym is) in
    sym (get_or_from_slice_get (map (λ (s : ShownEntry). s.entry) dict) place e.entry low there)

pub prefix_there : (left : List Prefix) (p : Prefix) → Some p ≡ slice_get left 0 → p ≡ first_prefix left
prefix_there left p is = sym (get_or_from_slice_get left 0 p (record { entries = []; digests = [] }) (sym is))

-- how many present terms are left after a slot
pub fewer_absent : (slots : List Slot) (i n : ℕ) (slot : Slot) → slice_get slots i ≡ Some slot → slot.present ≡ false → present_in (drop i slots) ≡ n → present_in (drop (i + 1) slots) ≡ n
fewer_absent slots i n slot is absent all = kind_absent slot (drop (i + 1) slots) n absent (sym (ap present_in (at_front slots i slot is)) ∙ all)

pub some_left : (slots : List Slot) (i n : ℕ) (slot : Slot) → slice_get slots i ≡ Some slot → slot.present ≡ true → present_in (drop i slots) ≡ n → n ≡ 1 + present_in (drop (i + 1) slots)
some_left slots i n slot is present all = sym (kind_present slot (drop (i + 1) slots) n present (sym (ap present_in (at_front slots i slot is)) ∙ all))

pub prefixes_fewer : (slots : List Slot) (i : ℕ) (left : List Prefix) (slot : Slot) → slice_get slots i ≡ Some slot → slot.present ≡ true → present_in (drop i slots) ≡ length left
    → present_in (drop (i + 1) slots) ≡ length (drop 1 left)
prefixes_fewer slots i left slot is present all =
    let some = some_left slots i (length left) slot is present all in
    omega (arith, some, length-drop 1 left)

-- a present term has its prefix
pub has_prefix : (slots : List Slot) (i : ℕ) (left : List Prefix) (slot : Slot) → slice_get slots i ≡ Some slot → slot.present ≡ true → present_in (drop i slots) ≡ length left
    → None ≡ slice_get left 0 → ⊥
has_prefix slots i [] slot is present all none =
    let some = some_left slots i 0 slot is present all in omega (arith, some)
has_prefix slots i (p ∷ left) slot is present all none = cc

pub same_one : (i weight weight' : ℕ) (entry entry' : DictEntry) (prefix prefix' : Prefix) → weight ≡ weight' → entry ≡ entry' → prefix ≡ prefix'
    → (let one : Presented = record { number = i; weight = weight; entry = entry; prefix = prefix } in one)
    ≡ (let other : Presented = record { number = i; weight = weight'; entry = entry'; prefix = prefix' } in other)
same_one i weight weight' entry entry' prefix prefix' same_weight same_entry same_prefix =
    ap (λ w. let one : Presented = record { number = i; weight = w; entry = entry; prefix = prefix } in one) same_weight
    ∙ ap (λ e. let one : Presented = record { number = i; weight = weight'; entry = e; prefix = prefix } in one) same_entry
    ∙ ap (λ p. let one : Presented = record { number = i; weight = weight'; entry = entry'; prefix = p } in one) same_prefix
