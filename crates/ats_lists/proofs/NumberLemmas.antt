-- The numbers of terms, the table that finds them, and how those of one term are merged.
use Rattle.std.proofs.Common.{◌≡◌, ◌≢◌, ◌<◌, ◌≤◌, ◌-◌, ◌+◌, ◌⊎◌, ◌==◌, ℕ, suc, true, false, List, [], ◌∷◌, ◌++◌, length, get_or, map, set, sym, ap, subst, ◌∙◌, inl, inr, arith, length-append}
use Rattle.std.specs.List.{All, list_any}
use Rattle.std.specs.List.Sorted.{IsPermutation, IsStrictlySortedBy}
use Rattle.std.specs.Ordering.{is_eq, is_lt}
use Rattle.std.specs.Str.{bytes_eq}
use Rattle.std.proofs.lemmas.Bool.{cases_Bool, cases_eq, cases_lt}
use Rattle.std.proofs.lemmas.Bool.Decides.{nat_tests}
use Rattle.std.proofs.lemmas.Cmp.{nat_list_cmp_total}
use Rattle.std.proofs.lemmas.List.{get_or_append_left, get_or_push, get_or-map, get_or-set_same, get_or-set_other, length-map, length-set}
use Rattle.std.proofs.lemmas.List.Folds.{list_any_at}
use Rattle.std.proofs.lemmas.List.Elements.{All-head, All-push, All-tail, All-weaker}
use Rattle.std.proofs.lemmas.List.Sorted.{All-permutation, length_permutation, list_any-IsPermutation}
use Rattle.std.proofs.lemmas.Map.Keys.{sorted_from_all_adjacent, Less-from_sorted}
use Rattle.std.proofs.lemmas.Map.Text.{is_eq-slice_cmp}
use Rattle.std.proofs.lemmas.Slice.Eq.{bytes_eq-Decides}
use Rattle.ats_terms.specs.Front.{front, AreBytes}
use Rattle.ats_terms.specs.Query.{byte_cmp}
use Rattle.ats_terms.proofs.Public.{front_tells}
use Rattle.ats_lists.specs.Inner.Gathered.{term_of, AreNewNumbers, AreNumbered, AreSlotsOf, IsSlotOf}
use Rattle.ats_lists.specs.declared.numbering.Slot.{Slot}
use Rattle.ats_lists.proofs.LogLemmas.{Grows, terms_kept, used_before}
use Rattle.ats_postings.proofs.Public.{less_by, one_place}

-- ---- the table

slot_more : (terms : List (List ℕ)) (term : List ℕ) (slot : Slot) → (slot.size ≡ 0) ⊎ IsSlotOf terms slot
    → (slot.size ≡ 0) ⊎ IsSlotOf (terms ++ term ∷ []) slot
slot_more terms term slot (inl empty) = inl empty
slot_more terms term slot (inr is) =
    let same : term_of (terms ++ term ∷ []) slot.number ≡ term_of terms slot.number = get_or_append_left terms (term ∷ []) [] slot.number is.inside in
    inr (record {
      inside = omega (arith, is.inside, length-append terms (term ∷ []));
      first = is.first ∙ ap (front 8) (sym same);
      size = is.size ∙ ap (λ (t : List ℕ). length t + 1) (sym same);
      bytes = subst AreBytes (sym same) is.bytes;
    })

-- a further term leaves the slots as they are
pub slots_more : (terms : List (List ℕ)) (term : List ℕ) (slots : List Slot) → AreSlotsOf terms slots → AreSlotsOf (terms ++ term ∷ []) slots
slots_more terms term slots are = All-weaker (λ (slot : Slot). (slot.size ≡ 0) ⊎ IsSlotOf terms slot)
    (λ (slot : Slot). (slot.size ≡ 0) ⊎ IsSlotOf (terms ++ term ∷ []) slot) (slot_more terms term) slots are

-- a slot that is not empty belongs to a term
pub slot_says : (terms : List (List ℕ)) (slot : Slot) (size : ℕ) → (slot.size ≡ 0) ⊎ IsSlotOf terms slot → slot.size ≡ size + 1 → IsSlotOf terms slot
slot_says terms slot size (inl empty) some = absurd (omega (arith, empty, some))
slot_says terms slot size (inr is) some = is

-- the term of a slot is the one that is sought, if both are short
pub short_is : (terms : List (List ℕ)) (slot : Slot) (term : List ℕ) → AreBytes term → length term ≤ 8 → slot.size ≡ length term + 1 → slot.first ≡ front 8 term
    → (slot.size ≡ 0) ⊎ IsSlotOf terms slot → (slot.number < length terms) × (term_of terms slot.number ≡ term)
short_is terms slot term bytes short size first says =
    let is : IsSlotOf terms slot = slot_says terms slot (length term) says size in
    let long : length (term_of terms slot.number) ≡ length term = omega (arith, is.size, size) in
    (is.inside, front_tells 8 (term_of terms slot.number) term is.bytes bytes (omega (arith, long, short)) long (sym is.first ∙ first))

-- ---- each number with its term

equal_numbers : (a b : ℕ) → a ≡ b → (a == b) ≡ true
equal_numbers a b is = grind (arith, nat_tests)

other_numbers : (a b : ℕ) → a ≢ b → (a == b) ≡ false
other_numbers a b differ = grind (arith, nat_tests)

-- terms with their places
pub numbered_all : (terms : List (List ℕ)) (all : List (List ℕ × ℕ)) → map (λ (pair : List ℕ × ℕ). pair.0) all ≡ terms
    → ((n : ℕ) (d : List ℕ × ℕ) → n < length all → (get_or all n d).1 ≡ n) → AreNumbered terms all
numbered_all terms all same places =
    let first : List ℕ × ℕ → List ℕ = λ pair. pair.0 in
    let size : length all ≡ length terms = sym (length-map all first) ∙ ap length same in
    record {
      each = λ k d inside.
          let term : term_of terms k ≡ (get_or all k d).0 = ap (λ (ts : List (List ℕ)). get_or ts k []) (sym same) ∙ get_or-map first all k d [] inside in
          rw (places k d inside) (omega (arith, inside, size), term);
      every = λ n inside.
          list_any_at (λ (pair : List ℕ × ℕ). pair.1 == n) all n ([], 0) (omega (arith, inside, size))
          (equal_numbers (get_or all n ([], 0)).1 n (places n ([], 0) (omega (arith, inside, size))));
      size = size;
    }

-- in another order
pub numbered_moved : (terms : List (List ℕ)) (all moved : List (List ℕ × ℕ)) → IsPermutation all moved → AreNumbered terms all
    → AreNumbered terms moved
numbered_moved terms all moved same are = record {
  each = All-permutation (λ (pair : List ℕ × ℕ). (pair.1 < length terms) × (term_of terms pair.1 ≡ pair.0)) all moved same are.each;
  every = λ n inside. sym (list_any-IsPermutation (λ (pair : List ℕ × ℕ). pair.1 == n) all moved same) ∙ are.every n inside;
  size = length_permutation all moved same ∙ are.size;
}

-- ---- the numbers of each term, merged

-- no term that is left is below this one
abbrev pub NoneBelow : List (List ℕ × ℕ) → List ℕ → Type 0
NoneBelow left term = All (λ pair. is_lt (byte_cmp pair.0 term) ≡ false) left

-- of two that are left the later one is not below the other
abbrev pub Ascend : List (List ℕ × ℕ) → Type 0
Ascend left = (i j : ℕ) (d : List ℕ × ℕ) → i ≤ j → j < length left → is_lt (byte_cmp (get_or left j d).0 (get_or left i d).0) ≡ false

pub ascend_less : (pair : List ℕ × ℕ) (left : List (List ℕ × ℕ)) → Ascend (pair ∷ left) → Ascend left
ascend_less pair left up i j d low inside = up (suc i) (suc j) d (omega arith) (omega arith)

-- the terms so far stay at or below what is left, with one more
pub below_more : (terms more : List (List ℕ)) (pair : List ℕ × ℕ) (left : List (List ℕ × ℕ)) (n : ℕ) → Grows terms more pair.0 n
    → Ascend (pair ∷ left) → All (NoneBelow (pair ∷ left)) terms → All (NoneBelow left) more
below_more terms more pair left n grows up below =
    let before : All (NoneBelow left) terms = All-weaker (NoneBelow (pair ∷ left)) (NoneBelow left)
    (λ term none. All-tail (λ (other : List ℕ × ℕ). is_lt (byte_cmp other.0 term) ≡ false) pair left none) terms below in
    elim grows [
      | inl same ↦ rw same before
      | inr (last, longer) ↦
          rw longer (All-push (NoneBelow left) terms pair.0 before (λ k d inside. up 0 (suc k) d (omega arith) (omega arith)))
    ]

-- no term
pub nothing_rises : IsStrictlySortedBy byte_cmp []
unfolding IsStrictlySortedBy
nothing_rises = tt

-- a term that is not below the last one, and differs from it, is appended
pub rises_push : (terms : List (List ℕ)) (term : List ℕ) → IsStrictlySortedBy byte_cmp terms
    → All (λ before. is_lt (byte_cmp term before) ≡ false) terms
    → (0 < length terms → get_or terms (length terms - 1) [] ≢ term) → IsStrictlySortedBy byte_cmp (terms ++ term ∷ [])
rises_push terms term rises above other =
    sorted_from_all_adjacent nat_list_cmp_total (terms ++ term ∷ []) [] (λ k inside.
    let size : length (terms ++ term ∷ []) ≡ length terms + 1 = length-append terms (term ∷ []) in
    let own : get_or (terms ++ term ∷ []) k [] ≡ get_or terms k [] = get_or_append_left terms (term ∷ []) [] k (omega (arith, inside, size)) in
    elim (cases_lt (k + 1) (length terms)) [
      | inl within ↦ rw (own, get_or_append_left terms (term ∷ []) [] (k + 1) within) (Less-from_sorted byte_cmp terms k (k + 1) [] rises (omega arith) within)
      | inr past ↦
          let at : k + 1 ≡ length terms = omega (arith, past, inside, size) in
          let last : length terms - 1 ≡ k = omega (arith, at) in
          let before : List ℕ = get_or terms k [] in
          let differ : before ≢ term = rw (← last) (other (omega (arith, at))) in
          rw (own, get_or_push terms term [] (k + 1) (sym at))
          (less_by (byte_cmp before term) (byte_cmp term before) (nat_list_cmp_total.antisymm term before)
          (above k [] (omega (arith, at))) (unequal before term differ))
    ])
  where
    unequal : (x y : List ℕ) → x ≢ y → is_eq (byte_cmp x y) ≡ false
    unequal x y other = elim (cases_Bool (bytes_eq x y)) [
      | inl is ↦ absurd (other ((bytes_eq-Decides x y).0 is))
      | inr not ↦ is_eq-slice_cmp x y ∙ not
    ]

-- the numbers that are not left have the places of their terms, and each term is one of the old ones
pub record ArePlaced (old : List (List ℕ)) (left : List (List ℕ × ℕ)) (terms : List (List ℕ)) (places : List ℕ) : Type 0 where
  pub size : length places ≡ length old
  pub named : All (λ pair. term_of old pair.1 ≡ pair.0) left
  pub right : (j : ℕ) → j < length old → (list_any (λ pair. pair.1 == j) left ≡ true)
      ⊎ ((get_or places j 0 < length terms) × (term_of terms (get_or places j 0) ≡ term_of old j))
  pub used : (n : ℕ) → n < length terms → (j : ℕ) × (j < length old) × (term_of old j ≡ term_of terms n)

pub none_placed : (old : List (List ℕ)) (all : List (List ℕ × ℕ)) (places : List ℕ) → length places ≡ length all → AreNumbered old all
    → ArePlaced old all [] places
none_placed old all places size are = record {
  size = size ∙ are.size;
  named = All-weaker (λ (pair : List ℕ × ℕ). (pair.1 < length old) × (term_of old pair.1 ≡ pair.0))
      (λ (pair : List ℕ × ℕ). term_of old pair.1 ≡ pair.0) (λ pair is. is.1) all are.each;
  right = λ j inside. inl (are.every j inside);
  used = λ n inside. absurd (omega arith);
}

pub one_placed : (old : List (List ℕ)) (pair : List ℕ × ℕ) (left : List (List ℕ × ℕ)) (terms more : List (List ℕ)) (places : List ℕ) (n : ℕ)
    → ArePlaced old (pair ∷ left) terms places → pair.1 < length places → Grows terms more pair.0 n → n < length more → term_of more n ≡ pair.0
    → ArePlaced old left more (set places pair.1 n)
one_placed old pair left terms more places n are within grows inside here =
    let named : term_of old pair.1 ≡ pair.0 = All-head (λ (p : List ℕ × ℕ). term_of old p.1 ≡ p.0) pair left are.named in
    record {
      size = length-set places pair.1 n ∙ are.size;
      named = All-tail (λ (p : List ℕ × ℕ). term_of old p.1 ≡ p.0) pair left are.named;
      right = λ j low. elim (cases_eq pair.1 j) [
        | inl at ↦ inr (rw (← at, get_or-set_same places pair.1 n 0 within) (inside, here ∙ sym named))
        | inr other ↦ elim (are.right j low) [
          | inl is ↦ inl (rw (other_numbers pair.1 j other) at is)
          | inr (at, is) ↦
              let kept = terms_kept terms more pair.0 n grows (get_or places j 0) at in
              inr (rw (get_or-set_other places pair.1 j n 0 (λ same. other (sym same))) (kept.0, kept.1 ∙ is))
        ]
      ];
      used = λ m low. elim (used_before terms more pair.0 n grows m low) [
        | inl before ↦
            let (j, at, is) = are.used m before in
            (j, at, is ∙ sym (terms_kept terms more pair.0 n grows m before).1)
        | inr last ↦ (pair.1, omega (arith, within, are.size), rw last (named ∙ sym here))
      ];
    }

pub all_placed : (old terms : List (List ℕ)) (places : List ℕ) → IsStrictlySortedBy byte_cmp terms → ArePlaced old [] terms places
    → AreNewNumbers [] old terms (length old) places
all_placed old terms places rises are =
    let right : (j : ℕ) → j < length old → (get_or places j 0 < length terms) × (term_of terms (get_or places j 0) ≡ term_of old j) =
    λ j inside. elim (are.right j inside) [
      | inl left ↦ absurd (let clash : false ≡ true = left in cc)
      | inr is ↦ is
    ] in
    record {
      size = are.size;
      kept = λ n inside. absurd (omega arith);
      right = right;
      used = λ n inside.
          let (j, low, is) = are.used n inside in
          inr (j, low, one_place nat_list_cmp_total terms (get_or places j 0) n [] rises (right j low).0 inside ((right j low).1 ∙ is));
    }
