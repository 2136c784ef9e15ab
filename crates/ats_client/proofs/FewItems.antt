-- A proof has no more items than bytes, and so at most 2^26.
use Rattle.std.proofs.Common.{◌≡◌, ◌∙◌, ◌≤◌, ◌+◌, ◌^◌, ℕ, List, [], ◌∷◌, ◌++◌, length, length-append, get_or, Option, Some, None, refl, ap, arith}
use Rattle.std.specs.List.{All, concat, flat_map, sum_by}
use Rattle.std.proofs.lemmas.List.Elements.{All-head, All-tail}
use Rattle.std.proofs.lemmas.List.Folds.{concat-append}
use Rattle.std.proofs.lemmas.List.Sums.{sum_by-cons}
use Rattle.ats_doctree.specs.declared.doc_leaf.DocLeaf.{DocLeaf}
use Rattle.ats_postings.specs.declared.entry.Entry.{Entry}
use Rattle.ats_proof.specs.declared.record.Slot.{Slot}
use Rattle.ats_proof.specs.Parts.{spelled, counted}
use Rattle.ats_proof.specs.Ranges.{AreDigests, AreDocumentsInRange, IsPrefixInRange, IsSectionInRange, IsInRange}
use Rattle.ats_proof.specs.Value.{ShownEntry, Prefix, ShownTerm, TermsSection, Documents, Proof, IsProof, fields_of, front_fields, header_fields, entry_fields, digest_fields, slot_fields, id_fields, posting_fields, prefix_fields, doc_fields, term_fields, section_fields, documents_fields, items_of, items_of_prefix, items_of_section, items_of_documents, kind_of_slot}
use Rattle.ats_proof.proofs.Public.{length-spelled, in_range}

-- how many bytes fields have
abbrev size : List (List ℕ) → ℕ
size fields = length (concat fields)

size-append : (a b : List (List ℕ)) → size (a ++ b) ≡ size a + size b
size-append a b = ap length (concat-append a b) ∙ length-append (concat a) (concat b)

size-cons : (field : List ℕ) (a : List (List ℕ)) → size (field ∷ a) ≡ length field + size a
size-cons field a = length-append field (concat a)

-- parts with at most as many items as bytes
weighed : {X : Type 0} (spell : X → List (List ℕ)) (items : X → ℕ) (xs : List X) → All (λ x. items x ≤ size (spell x)) xs → sum_by items xs ≤ size (flat_map spell xs)
weighed spell items [] each = omega arith
weighed spell items (x ∷ xs) each =
    omega (
      arith,
      sum_by-cons items x xs,
      size-append (spell x) (flat_map spell xs),
      All-head (λ x. items x ≤ size (spell x)) x xs each,
      weighed spell items xs (All-tail (λ x. items x ≤ size (spell x)) x xs each),
    )

-- parts of some bytes each
some_each : {X : Type 0} (spell : X → List (List ℕ)) (xs : List X) → All (λ x. 1 ≤ size (spell x)) xs → length xs ≤ size (flat_map spell xs)
some_each spell [] each = omega arith
some_each spell (x ∷ xs) each =
    omega (
      arith,
      size-append (spell x) (flat_map spell xs),
      All-head (λ x. 1 ≤ size (spell x)) x xs each,
      some_each spell xs (All-tail (λ x. 1 ≤ size (spell x)) x xs each),
    )

counted_each : {X : Type 0} (width : ℕ) (spell : X → List (List ℕ)) (xs : List X) → All (λ x. 1 ≤ size (spell x)) xs → length xs ≤ size (counted width spell xs)
counted_each width spell xs each =
    omega (arith, size-cons (spelled width (length xs)) (flat_map spell xs), some_each spell xs each)

-- ---- each part

some_entry : (e : ShownEntry) → 1 ≤ size (entry_fields e)
some_entry e = omega (arith, size-cons (spelled 4 e.position) (spelled 1 (length e.entry.term) ∷ e.entry.term ∷ spelled 4 e.entry.f ∷ e.entry.root ∷ []), length-spelled 4 e.position)

some_slot : (slot : Slot) → 1 ≤ size (slot_fields slot)
some_slot slot = omega (arith, size-cons (spelled 1 (kind_of_slot slot)) (spelled 2 slot.index ∷ []), length-spelled 1 (kind_of_slot slot))

some_id : (id : ℕ) → 1 ≤ size (id_fields id)
some_id id = omega (arith, size-cons (spelled 4 id) [], length-spelled 4 id)

some_posting : (e : Entry) → 1 ≤ size (posting_fields e)
some_posting e = omega (arith, size-cons (spelled 4 e.doc) (spelled 2 e.impact ∷ []), length-spelled 4 e.doc)

some_leaf : (d : DocLeaf) → 1 ≤ size (doc_fields d)
some_leaf d = omega (arith, size-cons (spelled 4 d.leaves) (d.root ∷ []), length-spelled 4 d.leaves)

some_term : (t : ShownTerm) → 1 ≤ size (term_fields t)
some_term t = omega (arith, size-cons (spelled 4 t.position) (spelled 1 (length t.term.0) ∷ t.term.0 ∷ spelled 2 t.term.1 ∷ []), length-spelled 4 t.position)

some_digests : (digests : List (List ℕ)) → AreDigests digests → All (λ digest. 1 ≤ size (digest_fields digest)) digests
some_digests digests sized k d low =
    let digest : List ℕ = get_or digests k d in
    let thirty_two : length digest ≡ 32 = sized k d low in
    omega (arith, size-cons digest [], thirty_two)

of_prefix : (p : Prefix) → IsPrefixInRange p → items_of_prefix p ≤ size (prefix_fields p)
of_prefix p range =
    omega (
      arith,
      size-append (counted 4 posting_fields p.entries) (counted 2 digest_fields p.digests),
      counted_each 4 posting_fields p.entries (λ k d low. some_posting (get_or p.entries k d)),
      counted_each 2 digest_fields p.digests (some_digests p.digests range.sized),
    )

of_section : (s : TermsSection) → IsSectionInRange s → items_of_section s ≤ size (section_fields s)
of_section s range =
    omega (
      arith,
      size-append (counted 2 term_fields s.leaves) (counted 2 digest_fields s.digests ++ flat_map slot_fields s.slots),
      size-append (counted 2 term_fields s.leaves ++ counted 2 digest_fields s.digests) (flat_map slot_fields s.slots),
      size-append (counted 2 term_fields s.leaves) (counted 2 digest_fields s.digests),
      counted_each 2 term_fields s.leaves (λ k d low. some_term (get_or s.leaves k d)),
      counted_each 2 digest_fields s.digests (some_digests s.digests range.sized),
      some_each slot_fields s.slots (λ k d low. some_slot (get_or s.slots k d)),
    )

of_documents : (docs : Option Documents) → ((d : Documents) → docs ≡ Some d → AreDocumentsInRange d) → items_of_documents docs ≤ size (documents_fields docs)
of_documents None range = omega arith
of_documents (Some d) range =
    let is : AreDocumentsInRange d = range d refl in
    omega (
      arith,
      size-append (flat_map doc_fields d.leaves ++ counted 4 digest_fields d.digests) (flat_map section_fields d.sections),
      size-append (flat_map doc_fields d.leaves) (counted 4 digest_fields d.digests),
      some_each doc_fields d.leaves (λ k e low. some_leaf (get_or d.leaves k e)),
      counted_each 4 digest_fields d.digests (some_digests d.digests is.sized),
      weighed section_fields items_of_section d.sections (λ k e low. of_section (get_or d.sections k e) (is.sections k e low)),
    )

-- ---- the whole

few_fields : (p : Proof) → IsInRange p → items_of p ≤ size (fields_of p)
few_fields p range =
    let a : List (List ℕ) = front_fields p.format p.docs ++ header_fields p.header ++ spelled 2 (length p.slots) ∷ [] in
    let b : List (List ℕ) = a ++ counted 2 entry_fields p.dict in
    let c : List (List ℕ) = b ++ counted 2 digest_fields p.dict_digests in
    let d : List (List ℕ) = c ++ flat_map slot_fields p.slots in
    let e : List (List ℕ) = d ++ counted 4 id_fields p.met in
    let f : List (List ℕ) = e ++ flat_map prefix_fields p.lists in
    let g : List (List ℕ) = f ++ documents_fields p.docs in
    let all : size (fields_of p) ≡ size g + size (counted 2 id_fields p.answer) = size-append g (counted 2 id_fields p.answer) in
    omega (
      arith,
      all,
      size-append f (documents_fields p.docs),
      size-append e (flat_map prefix_fields p.lists),
      size-append d (counted 4 id_fields p.met),
      size-append c (flat_map slot_fields p.slots),
      size-append b (counted 2 digest_fields p.dict_digests),
      size-append a (counted 2 entry_fields p.dict),
      counted_each 2 entry_fields p.dict (λ k x low. some_entry (get_or p.dict k x)),
      counted_each 2 digest_fields p.dict_digests (some_digests p.dict_digests range.terms.sized),
      some_each slot_fields p.slots (λ k x low. some_slot (get_or p.slots k x)),
      counted_each 4 id_fields p.met (λ k x low. some_id (get_or p.met k x)),
      weighed prefix_fields items_of_prefix p.lists (λ k x low. of_prefix (get_or p.lists k x) (range.fronts k x low)),
      of_documents p.docs range.shown,
      counted_each 2 id_fields p.answer (λ k x low. some_id (get_or p.answer k x)),
    )

pub few_items : (bytes : List ℕ) (p : Proof) → IsProof bytes p → items_of p ≤ 2 ^ 26
few_items bytes p is =
    let few : length bytes ≤ 2 ^ 26 = is.spells.few in
    let parts : bytes ≡ concat (fields_of p) ++ [] = is.spells.whole.parts in
    omega (arith, few, ap length parts, length-append (concat (fields_of p)) [], few_fields p (in_range bytes p is))
