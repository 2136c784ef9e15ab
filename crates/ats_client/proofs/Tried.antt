-- The progress of the check of the met documents.
use Rattle.std.proofs.Common.{◌≡◌, ◌≢◌, ◌<◌, ◌≤◌, ◌+◌, ◌^◌, ◌++◌, ◌∙◌, ℕ, List, [], ◌∷◌, length, drop, set, slice_get, Option, Some, sym, ap, subst, inl, inr, arith, append_assoc}
use Rattle.std.specs.List.{All}
use Rattle.std.specs.List.Sorted.{IsStrictlyIncreasing}
use Rattle.std.proofs.lemmas.Bool.{cases_order}
use Rattle.std.proofs.lemmas.List.{append-nil, drop-drop, length-set, get_or-set_same, get_or-set_other}
use Rattle.std.proofs.lemmas.List.Elements.{All-append, All-cons, All-nil}
use Rattle.std.proofs.lemmas.Option.{get_or_from_slice_get, slice_get_within}
use Rattle.std.proofs.Math.ListN.{drop_of_length-le}
use Rattle.ats_bound.specs.declared.work.Mark.{Mark}
use Rattle.ats_bound.specs.Work.{mark_at, zero_mark}
use Rattle.ats_bound.specs.Cut.{ShownLane, bracket, threshold as threshold_of}
use Rattle.ats_bound.specs.Lookup.{looked_score}
use Rattle.ats_bound.specs.Schedule.{Bounding}
use Rattle.ats_doctree.specs.declared.doc_leaf.DocLeaf.{DocLeaf}
use Rattle.ats_proof.specs.Value.{TermsSection, Documents, Proof}
use Rattle.ats_refusal.specs.declared.proof.Refusal.{Refusal}
use Rattle.ats_client.specs.Bracketing.{impact_shown, bounds_in, bounds_of}
use Rattle.ats_client.specs.Documents.{MetDocument, documents_from, documents_in, present_numbers, document_rules, IsDocumentRight, AreDocumentsRight, IsDocumentsFault}
use Rattle.ats_client.specs.Groups.{met_at}
use Rattle.ats_client.specs.Marked.{IsMark, AreMarks, AreNoted}
use Rattle.ats_client.specs.Presented.{presented, lanes_of}
use Rattle.ats_client.specs.Inner.KeptTerms.{kept_terms, bare_lanes}
use Rattle.ats_base.specs.Rules.{IsFirstFault, IsFirstOf}
use Rattle.ats_client.proofs.Scored.{section_scores, mark_scored}
use Rattle.ats_client.proofs.Walks.{first_left}

abbrev pub made : ℕ → DocLeaf → TermsSection → MetDocument
made id leaf section = record { doc = id; leaf = leaf; section = section }

pub front_document : (ids : List ℕ) (leaves : List DocLeaf) (sections : List TermsSection) (id : ℕ) (leaf : DocLeaf) (section : TermsSection)
    → Some id ≡ slice_get ids 0 → Some leaf ≡ slice_get leaves 0 → Some section ≡ slice_get sections 0
    → documents_from ids leaves sections ≡ made id leaf section ∷ documents_from (drop 1 ids) (drop 1 leaves) (drop 1 sections)
front_document [] leaves sections id leaf section here is shown = absurd (cc)
front_document (i ∷ ids) [] sections id leaf section here is shown = absurd (cc)
front_document (i ∷ ids) (l ∷ leaves) [] id leaf section here is shown = absurd (cc)
front_document (i ∷ ids) (l ∷ leaves) (s ∷ sections) id leaf section here is shown =
    let same_id : i ≡ id = cc in
    let same_leaf : l ≡ leaf = cc in
    let same_section : s ≡ section = cc in
    let rest : List MetDocument = documents_from ids leaves sections in
    ap (λ d. made d l s ∷ rest) same_id ∙ ap (λ (l : DocLeaf). made id l s ∷ rest) same_leaf ∙ ap (λ (s : TermsSection). made id leaf s ∷ rest) same_section

module _ (H : List ℕ → List ℕ) (query : List (List ℕ × ℕ)) (proof : Proof) (docs : Documents) where
  abbrev lanes : List ShownLane
  lanes = lanes_of query proof

  abbrev ones : List MetDocument
  ones = documents_from proof.met docs.leaves docs.sections

  abbrev Right : MetDocument → Type 0
  Right = IsDocumentRight H query (present_numbers proof)

  -- the first j documents are checked, and noted in their marks
  pub record IsTried (j : ℕ) (ids : List ℕ) (leaves : List DocLeaf) (sections : List TermsSection) (marks : List Mark) : Type 0 where
    pub before : List MetDocument
    pub stands : ones ≡ before ++ documents_from ids leaves sections
    pub right : All Right before
    pub ids_left : ids ≡ drop j proof.met
    pub sections_left : sections ≡ drop j docs.sections
    pub size : length marks ≡ length proof.met
    pub early : (i : ℕ) → i < j → IsMark (bounds_in proof.met (Some docs)) lanes (met_at proof.met i) (mark_at marks i)
    pub late : (i : ℕ) → i < length proof.met → j ≤ i → IsMark bracket lanes (met_at proof.met i) (mark_at marks i)
    pub free : AreNoted [] marks

  pub begins : (ids : List ℕ) (leaves : List DocLeaf) (sections : List TermsSection) (marks : List Mark) → ids ≡ proof.met → leaves ≡ docs.leaves → sections ≡ docs.sections
      → AreMarks bracket lanes proof.met marks → AreNoted [] marks → IsTried 0 ids leaves sections marks
  begins ids leaves sections marks all_ids all_leaves all_sections are free = record {
    before = [];
    stands = sym (ap (λ (i : List ℕ). documents_from i leaves sections) all_ids ∙ ap (λ (l : List DocLeaf). documents_from proof.met l sections) all_leaves
        ∙ ap (documents_from proof.met docs.leaves) all_sections);
    right = All-nil Right;
    ids_left = all_ids;
    sections_left = all_sections;
    size = are.size;
    early = λ i low. absurd (omega (arith, low));
    late = λ i low past. are.each i low;
    free = free;
  }

  -- ---- one document more

  -- the first of those left is at the place
  pub first_at : {X : Type 0} (xs left : List X) (j : ℕ) (x : X) → left ≡ drop j xs → Some x ≡ slice_get left 0 → slice_get xs j ≡ Some x
  first_at xs left j x is here = sym (first_left j xs) ∙ ap (λ l. slice_get l 0) (sym is) ∙ sym here

  pub fails : (j : ℕ) (ids : List ℕ) (leaves : List DocLeaf) (sections : List TermsSection) (marks : List Mark) (id : ℕ) (leaf : DocLeaf) (section : TermsSection) (refusal : Refusal)
      → proof.docs ≡ Some docs → IsTried j ids leaves sections marks → Some id ≡ slice_get ids 0 → Some leaf ≡ slice_get leaves 0 → Some section ≡ slice_get sections 0
      → IsFirstFault (document_rules H query (present_numbers proof) (made id leaf section)) refusal → IsDocumentsFault H query proof refusal
  fails j ids leaves sections marks id leaf section refusal shown t here is part fault =
      let first : IsFirstOf Right (λ one. IsFirstFault (document_rules H query (present_numbers proof) one)) ones refusal = record {
        before = t.before;
        one = made id leaf section;
        after = documents_from (drop 1 ids) (drop 1 leaves) (drop 1 sections);
        stands = t.stands ∙ ap (λ (l : List MetDocument). t.before ++ l) (front_document ids leaves sections id leaf section here is part);
        right = t.right;
        fault = fault;
      } in
      subst (λ (d : Option Documents). IsFirstOf Right (λ one. IsFirstFault (document_rules H query (present_numbers proof) one)) (documents_in proof.met d) refusal) (sym shown) first

  abbrev noted : Mark → ℕ → ℕ → Mark
  noted mark score threshold = record { lo = score; held = threshold; list = mark.list; row = mark.row }

  -- the mark of the document at hand
  mark_next : (j : ℕ) (ids : List ℕ) (leaves : List DocLeaf) (sections : List TermsSection) (marks : List Mark) (id : ℕ) (section : TermsSection) (score threshold : ℕ)
      → IsStrictlyIncreasing proof.met → IsTried j ids leaves sections marks → Some id ≡ slice_get ids 0 → Some section ≡ slice_get sections 0
      → score ≡ looked_score (λ i other. impact_shown section i) (bare_lanes (kept_terms query proof)) id → score ≤ 2 ^ 38 → threshold ≡ threshold_of lanes
      → IsMark (bounds_in proof.met (Some docs)) lanes (met_at proof.met j) (noted (mark_at marks j) score threshold)
  mark_next j ids leaves sections marks id section score threshold rises t here part scores small rests =
      let at : slice_get proof.met j ≡ Some id = first_at proof.met ids j id t.ids_left here in
      let in_sections : slice_get docs.sections j ≡ Some section = first_at docs.sections sections j section t.sections_left part in
      let doc : met_at proof.met j ≡ id = get_or_from_slice_get proof.met j id 0 at in
      let low : j < length proof.met = slice_get_within proof.met j id at in
      let whole = section_scores proof.met docs.sections j id section proof.header.documents (presented query proof) rises at in_sections in
      subst (λ d. IsMark (bounds_in proof.met (Some docs)) lanes d (noted (mark_at marks j) score threshold)) (sym doc)
      (mark_scored proof.met docs lanes id score threshold (mark_at marks j)
      (subst (λ d. IsMark bracket lanes d (mark_at marks j)) doc (t.late j low (omega arith))) (scores ∙ whole) small rests)

  pub tries : (j : ℕ) (ids ids' : List ℕ) (leaves leaves' : List DocLeaf) (sections sections' : List TermsSection) (marks next : List Mark) (id : ℕ) (leaf : DocLeaf)
      (section : TermsSection) (score threshold : ℕ)
      → IsStrictlyIncreasing proof.met → IsTried j ids leaves sections marks → Some id ≡ slice_get ids 0 → Some leaf ≡ slice_get leaves 0 → Some section ≡ slice_get sections 0
      → ids' ≡ drop 1 ids → leaves' ≡ drop 1 leaves → sections' ≡ drop 1 sections → Right (made id leaf section)
      → score ≡ looked_score (λ i other. impact_shown section i) (bare_lanes (kept_terms query proof)) id → score ≤ 2 ^ 38 → threshold ≡ threshold_of lanes
      → next ≡ set marks j (noted (mark_at marks j) score threshold) → IsTried (j + 1) ids' leaves' sections' next
  tries j ids ids' leaves leaves' sections sections' marks next id leaf section score threshold rises t here is part to_ids to_leaves to_sections right scores small rests put =
      let one : MetDocument = made id leaf section in
      let new : Mark = noted (mark_at marks j) score threshold in
      let size = t.size in
      let low : j < length proof.met = slice_get_within proof.met j id (first_at proof.met ids j id t.ids_left here) in
      let rest : documents_from (drop 1 ids) (drop 1 leaves) (drop 1 sections) ≡ documents_from ids' leaves' sections' =
      sym (ap (λ (i : List ℕ). documents_from i leaves' sections') to_ids ∙ ap (λ (l : List DocLeaf). documents_from (drop 1 ids) l sections') to_leaves
      ∙ ap (documents_from (drop 1 ids) (drop 1 leaves)) to_sections) in
      let same : (i : ℕ) → i ≡ j → mark_at next i ≡ new = λ i equal.
      ap (λ (ms : List Mark). mark_at ms i) put ∙ ap (mark_at (set marks j new)) equal ∙ get_or-set_same marks j new zero_mark (omega (arith, low, size)) in
      let other : (i : ℕ) → i ≢ j → mark_at next i ≡ mark_at marks i = λ i apart.
      ap (λ (ms : List Mark). mark_at ms i) put ∙ get_or-set_other marks j i new zero_mark apart in
      record {
        before = t.before ++ one ∷ [];
        stands = t.stands ∙ ap (λ (l : List MetDocument). t.before ++ l) (front_document ids leaves sections id leaf section here is part ∙ ap (λ (l : List MetDocument). one ∷ l) rest)
            ∙ sym (append_assoc t.before (one ∷ []) _);
        right = All-append Right t.before (one ∷ []) t.right (All-cons Right one [] right (All-nil Right));
        ids_left = to_ids ∙ ap (drop 1) t.ids_left ∙ drop-drop 1 j proof.met;
        sections_left = to_sections ∙ ap (drop 1) t.sections_left ∙ drop-drop 1 j docs.sections;
        size = ap (λ (ms : List Mark). length ms) put ∙ length-set marks j new ∙ size;
        early = λ i less. elim (cases_order i j) [
          | inl equal ↦
              let mark = mark_next j ids leaves sections marks id section score threshold rises t here part scores small rests in
              rw (same i equal, equal) mark
          | inr apart ↦ rw (other i (λ equal. elim apart [ inl below ↦ omega (arith, below, equal) | inr above ↦ omega (arith, above, equal) ]))
              (t.early i (elim apart [ inl below ↦ below | inr above ↦ absurd (omega (arith, above, less)) ]))
        ];
        late = λ i inside past. rw (other i (λ equal. omega (arith, past, equal))) (t.late i inside (omega (arith, past)));
        free = λ i inside. elim (cases_order i j) [
          | inl equal ↦ ap (λ (m : Mark). m.row) (same i equal) ∙ t.free j (omega (arith, low, size))
          | inr apart ↦
              let distinct : i ≢ j = λ equal. elim apart [ inl below ↦ omega (arith, below, equal) | inr above ↦ omega (arith, above, equal) ] in
              let all = ap (λ (ms : List Mark). length ms) put ∙ length-set marks j new in
              ap (λ (m : Mark). m.row) (other i distinct) ∙ t.free i (omega (arith, inside, all))
        ];
      }

  -- ---- all documents

  none_left : (leaves : List DocLeaf) (sections : List TermsSection) (ids : List ℕ) → ids ≡ [] → documents_from ids leaves sections ≡ []
  none_left leaves sections ids none = ap (λ (i : List ℕ). documents_from i leaves sections) none

  pub all_right : (j : ℕ) (ids : List ℕ) (leaves : List DocLeaf) (sections : List TermsSection) (marks : List Mark) → proof.docs ≡ Some docs → length proof.met ≤ j
      → IsTried j ids leaves sections marks → AreDocumentsRight H query proof
  all_right j ids leaves sections marks shown all t =
      let none : ids ≡ [] = t.ids_left ∙ drop_of_length-le proof.met all in
      let same : ones ≡ t.before = t.stands ∙ ap (λ (l : List MetDocument). t.before ++ l) (none_left leaves sections ids none) ∙ append-nil t.before in
      subst (λ (d : Option Documents). All Right (documents_in proof.met d)) (sym shown) (subst (All Right) (sym same) t.right)

  pub all_marks : (j : ℕ) (ids : List ℕ) (leaves : List DocLeaf) (sections : List TermsSection) (marks : List Mark) → proof.docs ≡ Some docs → length proof.met ≤ j
      → IsTried j ids leaves sections marks → AreMarks (bounds_of proof) lanes proof.met marks
  all_marks j ids leaves sections marks shown all t =
      let bounds : bounds_in proof.met (Some docs) ≡ bounds_of proof = ap (bounds_in proof.met) (sym shown) in
      subst (λ (b : Bounding). AreMarks b lanes proof.met marks) bounds (record { size = t.size; each = λ i low. t.early i (omega (arith, low, all)) })
