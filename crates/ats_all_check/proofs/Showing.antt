-- The documents that a proof shows are all that have every term of the query, if all that is shown is an archive's own.
use Rattle.std.proofs.Common.{◌≡◌, ◌<◌, ◌∙◌, ◌&&◌, ℕ, suc, Bool, true, false, cond, nat_eq, nat_lt, List, [], ◌∷◌, length, map, get_or, slice_get, Option, Some, None, refl, sym, ap, ap₂, subst, inl, inr, arith}
use Rattle.std.specs.List.{All, filter, range_with_len}
use Rattle.std.proofs.lemmas.Bool.{cases_Bool, eqb-true}
use Rattle.std.proofs.lemmas.List.Elements.{All-map}
use Rattle.std.proofs.lemmas.List.Folds.{Any-from_list_any, list_all_at}
use Rattle.std.proofs.lemmas.List.FromFn.{length-range_with_len, get_or-range_with_len}
use Rattle.std.proofs.lemmas.Option.{slice_get-get_or, slice_get_within}
use Rattle.ats_doctree.specs.declared.doc_leaf.DocLeaf.{DocLeaf}
use Rattle.ats_postings.specs.Postings.{count_in}
use Rattle.ats_lists.proofs.Public.{range-rises}
use Rattle.ats_commit.specs.Archive.{Archive}
use Rattle.ats_commit.specs.Ours.{asked_term}
use Rattle.ats_proof.specs.declared.record.Algorithm.{Algorithm}
use Rattle.ats_proof.specs.declared.record.Algorithm.TheVariants.{Tra, Tnra}
use Rattle.ats_proof.specs.declared.record.Slot.{Slot}
use Rattle.ats_proof.specs.Value.{TermsSection, Documents, Proof, AreDocumentsOf, algorithm_of, present_in}
use Rattle.ats_client.specs.Documents.{MetDocument, documents_from, documents_in, met_documents, present_numbers}
use Rattle.ats_client.specs.Groups.{slot_at}
use Rattle.ats_client.specs.WholeLists.{shows_whole}
use Rattle.ats_client.proofs.Public.{ShowsOwn, below_in, absent_lacks, whole_meets, met_inside, slots_tell, sections-hold, at_place}
use Rattle.ats_all_check.specs.Documents.{has_all, both, are_present, shows_all, with_all, documents_shown}
use Rattle.ats_all_check.specs.Rules.{IsWhole}
use Rattle.ats_all_check.proofs.Present.{HasAbsent, absent_at, all_numbers, all_counted}
use Rattle.ats_all_check.proofs.Finds.{is_in, same_test, same_kept, none_kept, kept_numbers, in_below, all_below}

-- ---- slots

number_at : (n k : ℕ) → k < n → slice_get (range_with_len 0 n) k ≡ Some k
number_at n k low =
    let at : get_or (range_with_len 0 n) k 0 ≡ k = omega (arith, get_or-range_with_len 0 n k 0 low) in
    slice_get-get_or (range_with_len 0 n) k 0 (omega (arith, low, length-range_with_len 0 n)) ∙ ap Some at

-- slots that say of each term of a query whether a document has it
same_terms : (texts : List (List ℕ)) (doc : ℕ) (slots : List Slot) (query : List (List ℕ × ℕ)) → length slots ≡ length query
    → ((k : ℕ) → k < length query → (slot_at slots k).present ≡ nat_lt 0 (count_in texts (asked_term query k) doc)) → are_present slots ≡ has_all texts query doc
same_terms texts doc [] [] size each = refl
same_terms texts doc [] (pair ∷ query) size each = absurd (omega (arith, size))
same_terms texts doc (slot ∷ slots) [] size each = absurd (omega (arith, size))
same_terms texts doc (slot ∷ slots) (pair ∷ query) size each =
    ap₂ (λ a b. a && b) (each 0 (omega arith))
    (same_terms texts doc slots query (omega (arith, size)) (λ k low. each (suc k) (omega (arith, low))))

-- a document with all terms of a query has each
each_term : (texts : List (List ℕ)) (doc : ℕ) (query : List (List ℕ × ℕ)) → has_all texts query doc ≡ true
    → (number : ℕ) → number < length query → nat_lt 0 (count_in texts (asked_term query number) doc) ≡ true
each_term texts doc query has number low =
    let test : List ℕ × ℕ → Bool = λ pair. nat_lt 0 (count_in texts pair.0 doc) in
    elim (cases_Bool (test (get_or query number ([], 0)))) [
      | inl is ↦ is
      | inr not ↦ let lacks : has_all texts query doc ≡ false = list_all_at test query number ([], 0) low not in absurd (cc)
    ]

-- ---- the met documents

docs_of_ones : (met : List ℕ) (leaves : List DocLeaf) (sections : List TermsSection) → length leaves ≡ length met → length sections ≡ length met
    → map (λ (one : MetDocument). one.doc) (documents_from met leaves sections) ≡ met
docs_of_ones [] leaves sections leaf_each section_each = refl
docs_of_ones (id ∷ met) [] sections leaf_each section_each = absurd (omega (arith, leaf_each))
docs_of_ones (id ∷ met) (leaf ∷ leaves) [] leaf_each section_each = absurd (omega (arith, section_each))
docs_of_ones (id ∷ met) (leaf ∷ leaves) (section ∷ sections) leaf_each section_each =
    ap (λ (ns : List ℕ). id ∷ ns) (docs_of_ones met leaves sections (omega (arith, leaf_each)) (omega (arith, section_each)))

-- the algorithm of a proof, by its documents
abbrev algorithm_by : Option Documents → Algorithm
algorithm_by None = Tnra
algorithm_by (Some docs) = Tra

-- a TRA proof shows a document for each met id
docs_of_met : (proof : Proof) (docs : Option Documents) → AreDocumentsOf proof docs → algorithm_by docs ≡ Tra
    → map (λ (one : MetDocument). one.doc) (documents_in proof.met docs) ≡ proof.met
docs_of_met proof None parts is = absurd (cc)
docs_of_met proof (Some docs) parts is = docs_of_ones proof.met docs.leaves docs.sections parts.leaf_each parts.section_each

slots_of_met : (proof : Proof) (docs : Option Documents) → AreDocumentsOf proof docs → (i : ℕ) (one : MetDocument) → slice_get (documents_in proof.met docs) i ≡ Some one
    → length one.section.slots ≡ present_in proof.slots
slots_of_met proof None parts i one there = absurd (omega (arith, slice_get_within [] i one there))
slots_of_met proof (Some docs) parts i one there =
    at_place (λ (one : MetDocument). length one.section.slots ≡ present_in proof.slots) (documents_from proof.met docs.leaves docs.sections) i one
    (sections-hold (λ (section : TermsSection). length section.slots ≡ present_in proof.slots) proof.met docs.leaves docs.sections parts.slot_each) there

-- ---- a proof that shows an archive's own

module _ (H : List ℕ → List ℕ) (archive : Archive) (root : List ℕ) (query : List (List ℕ × ℕ)) (proof : Proof) (is : ShowsOwn H archive root query proof) where
  abbrev texts : List (List ℕ)
  texts = archive.texts

  abbrev met : List MetDocument
  met = met_documents proof

  -- if a term is absent, no document has every term
  none_both : are_present proof.slots ≡ false → both texts query ≡ []
  none_both not =
      let gap : HasAbsent proof.slots = absent_at proof.slots not in
      let low : gap.place < length query = omega (arith, slice_get_within proof.slots gap.place gap.slot gap.there, is.holds.0.slots) in
      let pair : List ℕ × ℕ = get_or query gap.place ([], 0) in
      let at : slice_get query gap.place ≡ Some pair = slice_get-get_or query gap.place ([], 0) low in
      none_kept (has_all texts query) (range_with_len 0 (length texts)) (λ k d inside.
      let doc : ℕ = get_or (range_with_len 0 (length texts)) k d in
      list_all_at (λ (p : List ℕ × ℕ). nat_lt 0 (count_in texts p.0 doc)) query gap.place ([], 0) low
      (absent_lacks H archive root query proof is gap.place pair gap.slot at gap.there gap.absent doc (all_below (length texts) k d inside)))

  module _ (present : are_present proof.slots ≡ true) where
    -- the slots of a met document say whether it has every term
    tells : All (λ (one : MetDocument). shows_all one ≡ has_all texts query one.doc) met
    tells i d inside =
        let one : MetDocument = get_or met i d in
        let there : slice_get met i ≡ Some one = slice_get-get_or met i d inside in
        let terms : length proof.slots ≡ length query = is.holds.0.slots in
        let size : length one.section.slots ≡ length query =
        omega (arith, slots_of_met proof proof.docs is.parts i one there, all_counted proof.slots present, terms) in
        same_terms texts one.doc one.section.slots query size (λ k low.
        let number : slice_get (present_numbers proof) k ≡ Some k =
        ap (λ (ns : List ℕ). slice_get ns k) (all_numbers 0 proof.slots present) ∙ number_at (length proof.slots) k (omega (arith, low, terms)) in
        slots_tell H archive root query proof is i one there k k number)

    module _ (tra : algorithm_of proof ≡ Tra) where
      ids : map (λ (one : MetDocument). one.doc) met ≡ proof.met
      ids = docs_of_met proof proof.docs is.parts tra

      kept : with_all met ≡ filter (has_all texts query) proof.met
      kept =
          kept_numbers (λ (one : MetDocument). one.doc) shows_all (has_all texts query) met tells
          ∙ ap (filter (has_all texts query)) ids

      -- a met document is one of the texts
      met_below : (doc : ℕ) → is_in doc proof.met ≡ true → doc < length texts
      met_below doc found =
          let each : All (λ (one : MetDocument). one.doc < length texts) met =
          λ i d inside. met_inside H archive root query proof is i (get_or met i d) (slice_get-get_or met i d inside) in
          let below : All (λ id. id < length texts) proof.met =
          subst (All (λ id. id < length texts)) ids (All-map (λ id. id < length texts) (λ (one : MetDocument). one.doc) met each) in
          let any = Any-from_list_any (λ m. nat_eq m doc) proof.met found in
          omega (arith, below any.0 any.1 any.2, any.3, eqb-true any.1 doc any.4)

      all_both : shows_whole query proof ≡ true → with_all met ≡ both texts query
      all_both whole =
          kept
          ∙ same_kept (has_all texts query) proof.met (range_with_len 0 (length texts)) is.range.ids.rise (range-rises (length texts))
          (λ doc has. same_test (is_in doc proof.met) (is_in doc (range_with_len 0 (length texts)))
          (λ found. below_in (length texts) doc (met_below doc found))
          (λ inside. whole_meets H archive root query proof is whole doc (in_below (length texts) doc inside) (each_term texts doc query has)))

  -- the documents that are shown are all that have every term
  pub shown_are_both : algorithm_of proof ≡ Tra → IsWhole query proof → documents_shown proof ≡ both texts query
  shown_are_both tra whole = elim (cases_Bool (are_present proof.slots)) [
    | inl present ↦
        let all : shows_whole query proof ≡ true = elim whole [
          | inl not ↦ absurd (cc)
          | inr is ↦ is
        ] in
        ap (λ b. cond b (with_all met) []) present ∙ all_both present tra all
    | inr not ↦ ap (λ b. cond b (with_all met) []) not ∙ sym (none_both not)
  ]
