-- Leaves as they are hashed.
use Rattle.std.proofs.Common.{◌≡◌, ◌∙◌, ℕ, zero, suc, ◌+◌, ◌-◌, ◌*◌, ◌<◌, ◌≤◌, List, [], ◌∷◌, ◌++◌, length, map, get_or, take, drop, refl, sym, ap, ap₂, subst, arith, append_assoc, inl, inr}
use Rattle.std.specs.Int.{to_be_bytes, from_be_bytes, w16, w32}
use Rattle.std.specs.List.{All}
use Rattle.std.proofs.lemmas.List.Elements.{All-tail}
use Rattle.std.specs.List.Sorted.{IsStrictlyIncreasing}
use Rattle.std.proofs.Math.Seq.{take-add}
use Rattle.std.proofs.lemmas.Nat.{be_bytes_2, be_bytes_4}
use Rattle.std.proofs.lemmas.Option.{get_or_from_slice_get}
use Rattle.std.proofs.lemmas.List.{get_or-take, get_or_past, length-take-le, length-drop, length-take, drop-drop}
use Rattle.std.proofs.lemmas.Bool.{cases_lt}
use Rattle.ats_tree.specs.Shown.{positions_of}
use Rattle.ats_postings.specs.declared.entry.Entry.{Entry}
use Rattle.ats_lists.specs.Leaf.{leaf_bytes}
use Rattle.ats_dict.specs.Entry.{dict_leaf_bytes}
use Rattle.ats_doctree.specs.Sentinels as terms
use Rattle.ats_grammar.specs.Table.{number}
use Rattle.ats_proof.specs.Parts.{number_in, parts_in, total_size}
use Rattle.ats_proof.specs.Reading.{term_length_in, entry_size, entry_in, term_size, term_in, id_in, posting_in, posting_size}
use Rattle.ats_proof.specs.Runs.{leaf_in, leaves_in, shown_entry, shown_term, shown_list, named, AreNamed}
use Rattle.ats_proof.proofs.Numbers.{AreBytes}
use Rattle.ats_proof.proofs.Standing.{small-drop}
use Rattle.ats_proof.proofs.Taking.{part_at, parts_more}
use Rattle.ats_proof.proofs.Cutting.{past_term}
use Rattle.ats_proof.proofs.Runs.{length-parts}

number_2 : (bs : List ℕ) → length bs ≡ 2 → number bs ≡ from_be_bytes w16 bs
number_2 (a ∷ b ∷ []) same = omega arith
number_2 bs same = absurd (omega (arith, same))

number_4 : (bs : List ℕ) → length bs ≡ 4 → number bs ≡ from_be_bytes w32 bs
number_4 (a ∷ b ∷ c ∷ d ∷ []) same = omega arith
number_4 bs same = absurd (omega (arith, same))

small-take : (k : ℕ) (bytes : List ℕ) → AreBytes bytes → AreBytes (take k bytes)
small-take k bytes small i = elim (cases_lt i k) [
  | inl within ↦ rw (get_or-take k bytes i 0 within) (small i)
  | inr past ↦ rw (get_or_past (take k bytes) i 0 (omega (arith, past, length-take k bytes))) (omega arith)
]

pub be_2 : (bytes : List ℕ) → 2 ≤ length bytes → AreBytes bytes → to_be_bytes w16 (number_in 2 bytes) ≡ take 2 bytes
be_2 bytes space small =
    let two = length-take-le 2 bytes space in
    be_bytes_2 (take 2 bytes) (number_in 2 bytes) two (small-take 2 bytes small) (number_2 (take 2 bytes) two)

pub be_4 : (bytes : List ℕ) → 4 ≤ length bytes → AreBytes bytes → to_be_bytes w32 (number_in 4 bytes) ≡ take 4 bytes
be_4 bytes space small =
    let four = length-take-le 4 bytes space in
    be_bytes_4 (take 4 bytes) (number_in 4 bytes) four (small-take 4 bytes small) (number_4 (take 4 bytes) four)

-- ---- leaves of a list

pub list_rises : (at : ℕ) (met : List ℕ) (es : List Entry) → IsStrictlyIncreasing (positions_of (shown_list at met es))
list_rises at met [] k below = absurd (omega (arith, below))
list_rises at met (e ∷ []) k below = absurd (omega (arith, below))
list_rises at met (e ∷ f ∷ es) zero below = omega arith
list_rises at met (e ∷ f ∷ es) (suc k) below =
    let same : suc (k + 1) ≡ suc k + 1 = omega arith in
    subst (λ (j : ℕ). get_or (positions_of (shown_list at met (e ∷ f ∷ es))) (suc k) 0 < get_or (positions_of (shown_list at met (e ∷ f ∷ es))) j 0) same
    (list_rises (at + 1) met (f ∷ es) k (omega (arith, below)))

-- the met id that an entry names, then the entry's impact
pub named_bytes : (n : ℕ) (ids entries : List ℕ) → number_in 4 entries < n → n * 4 ≤ length ids → 6 ≤ length entries → AreBytes ids → AreBytes entries
    → take 4 (drop (4 * number_in 4 entries) ids) ++ take 2 (drop 4 entries) ≡ leaf_bytes (named (parts_in (λ _. 4) id_in n ids) (posting_in entries))
named_bytes n ids entries within space some small_ids small_entries =
    let i = number_in 4 entries in
    let there = drop (4 * i) ids in
    let id = get_or_from_slice_get (parts_in (λ _. 4) id_in n ids) i (number_in 4 there) 0 (part_at 4 id_in n i ids within) in
    let four : 4 ≤ length there = omega (arith, within, space, length-drop (4 * i) ids) in
    let two : 2 ≤ length (drop 4 entries) = omega (arith, some, length-drop 4 entries) in
    ap₂ (λ (xs ys : List ℕ). xs ++ ys) (sym (be_4 there four (small-drop (4 * i) ids small_ids)) ∙ ap (to_be_bytes w32) (sym id))
    (sym (be_2 (drop 4 entries) two (small-drop 4 entries small_entries)))

-- ---- leaves of the dictionary

head_byte : (bytes : List ℕ) → 1 ≤ length bytes → take 1 bytes ≡ number_in 1 bytes ∷ []
head_byte [] some = absurd (omega (arith, some))
head_byte (b ∷ bs) some = let e : b ≡ b * 1 + 0 = omega arith in ap (λ (n : ℕ). n ∷ []) e

-- the length and the term
front_bytes : (bytes : List ℕ) → 5 + term_length_in bytes ≤ length bytes
    → take (1 + term_length_in bytes) (drop 4 bytes) ≡ length (take (term_length_in bytes) (drop 5 bytes)) ∷ take (term_length_in bytes) (drop 5 bytes)
front_bytes bytes space =
    let l = term_length_in bytes in
    let term = take l (drop 5 bytes) in
    let size : length term ≡ l = length-take-le l (drop 5 bytes) (omega (arith, space, length-drop 5 bytes)) in
    take-add 1 l (drop 4 bytes) ∙ ap₂ (λ (xs ys : List ℕ). xs ++ take l ys) (head_byte (drop 4 bytes) (omega (arith, space, length-drop 4 bytes))) (drop-drop 1 4 bytes)
    ∙ ap (λ (n : ℕ). n ∷ term) (sym size)

-- the length, the term, and the bytes after it
leaf_parts : (after_term : ℕ) (bytes : List ℕ) → 5 + term_length_in bytes ≤ length bytes
    → take (1 + term_length_in bytes + after_term) (drop 4 bytes)
    ≡ (length (take (term_length_in bytes) (drop 5 bytes)) ∷ take (term_length_in bytes) (drop 5 bytes)) ++ take after_term (drop (5 + term_length_in bytes) bytes)
leaf_parts after_term bytes space =
    take-add (1 + term_length_in bytes) after_term (drop 4 bytes)
    ∙ ap₂ (λ (xs ys : List ℕ). xs ++ take after_term ys) (front_bytes bytes space) (past_term bytes)

pub entry_bytes : (bytes : List ℕ) → entry_size bytes ≤ length bytes → AreBytes bytes → leaf_in 36 bytes ≡ shown_entry (entry_in bytes)
unfolding dict_leaf_bytes
entry_bytes bytes space small =
    let l = term_length_in bytes in
    let term = take l (drop 5 bytes) in
    let later = drop (5 + l) bytes in
    let f : take 4 later ≡ to_be_bytes w32 (number_in 4 later) = sym (be_4 later (omega (arith, space, length-drop (5 + l) bytes)) (small-drop (5 + l) bytes small)) in
    let back : take 36 later ≡ to_be_bytes w32 (number_in 4 later) ++ take 32 (drop (5 + l + 4) bytes) =
    take-add 4 32 later ∙ ap₂ (λ (xs ys : List ℕ). xs ++ take 32 ys) f (drop-drop 4 (5 + l) bytes) in
    let whole : take (1 + l + 36) (drop 4 bytes) ≡ (length term ∷ term) ++ (to_be_bytes w32 (number_in 4 later) ++ take 32 (drop (5 + l + 4) bytes)) =
    leaf_parts 36 bytes (omega (arith, space)) ∙ ap (λ (xs : List ℕ). (length term ∷ term) ++ xs) back in
    ap (λ (xs : List ℕ). (number_in 4 bytes, xs)) (whole ∙ sym (append_assoc (length term ∷ term) (to_be_bytes w32 (number_in 4 later)) (take 32 (drop (5 + l + 4) bytes))))

pub entries_bytes : (n : ℕ) (bytes : List ℕ) → total_size entry_size n bytes ≤ length bytes → AreBytes bytes → leaves_in 36 n bytes ≡ map shown_entry (parts_in entry_size entry_in n bytes)
entries_bytes zero bytes fits small = refl
entries_bytes (suc n) bytes fits small =
    ap₂ (λ x xs. x ∷ xs) (entry_bytes bytes (omega (arith, fits)) small)
    (entries_bytes n (drop (entry_size bytes) bytes) (omega (arith, fits, length-drop (entry_size bytes) bytes)) (small-drop (entry_size bytes) bytes small))

-- ---- leaves of a document's terms

term_bytes : (bytes : List ℕ) → term_size bytes ≤ length bytes → AreBytes bytes → leaf_in 2 bytes ≡ shown_term (term_in bytes)
unfolding terms.leaf_bytes
term_bytes bytes space small =
    let l = term_length_in bytes in
    let later = drop (5 + l) bytes in
    let impact = be_2 later (omega (arith, space, length-drop (5 + l) bytes)) (small-drop (5 + l) bytes small) in
    ap (λ (xs : List ℕ). (number_in 4 bytes, xs))
    (leaf_parts 2 bytes (omega (arith, space)) ∙ ap (λ (xs : List ℕ). (length (take l (drop 5 bytes)) ∷ take l (drop 5 bytes)) ++ xs) (sym impact))

pub terms_bytes : (n : ℕ) (bytes : List ℕ) → total_size term_size n bytes ≤ length bytes → AreBytes bytes → leaves_in 2 n bytes ≡ map shown_term (parts_in term_size term_in n bytes)
terms_bytes zero bytes fits small = refl
terms_bytes (suc n) bytes fits small =
    ap₂ (λ x xs. x ∷ xs) (term_bytes bytes (omega (arith, fits)) small)
    (terms_bytes n (drop (term_size bytes) bytes) (omega (arith, fits, length-drop (term_size bytes) bytes)) (small-drop (term_size bytes) bytes small))

-- ---- the first of some entries that are left

pub length-shown_list : (at : ℕ) (met : List ℕ) (es : List Entry) → length (shown_list at met es) ≡ length es
length-shown_list at met [] = refl
length-shown_list at met (e ∷ es) = ap suc (length-shown_list (at + 1) met es)

pub some_left : (at n : ℕ) (met bytes : List ℕ) → 0 < length (shown_list at met (parts_in posting_size posting_in n bytes)) → 0 < n
some_left at n met bytes some = omega (arith, some, length-shown_list at met (parts_in posting_size posting_in n bytes), length-parts posting_size posting_in n bytes)

pub first_named : (met n : ℕ) (bytes : List ℕ) → 0 < n → AreNamed met n bytes → number_in 4 bytes < met
first_named met n bytes some named =
    let xs = subst (λ es. All (λ (e : Entry). e.doc < met) es) (parts_more posting_size posting_in n bytes some) named in
    xs 0 (posting_in bytes) (omega arith)

pub rest_named : (met n : ℕ) (bytes : List ℕ) → 0 < n → AreNamed met n bytes → AreNamed met (n - 1) (drop 6 bytes)
rest_named met n bytes some named =
    All-tail (λ (e : Entry). e.doc < met) (posting_in bytes) (parts_in posting_size posting_in (n - 1) (drop 6 bytes))
    (subst (λ es. All (λ (e : Entry). e.doc < met) es) (parts_more posting_size posting_in n bytes some) named)
