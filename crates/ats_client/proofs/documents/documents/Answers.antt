use Rattle.std.proofs.Common.{◌≡◌, ◌∙◌, ◌<◌, ℕ, List, length, drop, get_or, slice_get, Some, None, refl, sym, ap, subst, arith}
use Rattle.std.specs.List.{All}
use Rattle.std.proofs.lemmas.Option.{slice_get-get_or}
use Rattle.ats_bound.specs.Lookup.{looked_score}
use Rattle.ats_proof.specs.SeenDocs.{documents_of, ids_of, doc_leaves_of, sections_of, section_of}
use Rattle.ats_proof.specs.Value.{TermsSection, Documents, Proof, present_in, items_of_section}
use Rattle.ats_proof.specs.Ranges.{IsSectionInRange}
use Rattle.ats_client.specs.declared.kept_terms.PresentTerm.{PresentTerm}
use Rattle.ats_refusal.specs.declared.proof.Refusal.{Refusal}
use Rattle.ats_client.specs.Bracketing.{impact_shown}
use Rattle.ats_client.specs.Documents.{present_numbers, IsDocumentRight, document_rules, IsDocumentsFault}
use Rattle.ats_client.specs.Inner.KeptTerms.{numbers_of, bare_lanes}
use Rattle.ats_base.specs.Rules.{IsFirstFault}
use Rattle.ats_client.specs.Inner.SeenTerms.{document_of}
use Rattle.ats_client.proofs.Counts.{taken, sum_taken, section_items}
use Rattle.ats_client.proofs.Faults.{passed_on}
use Rattle.ats_client.proofs.PresentNumbers.{kept_numbers, kept_count, kept_within}
use Rattle.ats_client.proofs.TermsLeft.{at_front, at_place}
use Rattle.ats_client.proofs.Tried.{begins, fails, tries, first_at, all_right, all_marks}
use Rattle.ats_client.proofs.documents.documents.Goals as goal

-- there is a document among those that are left
no_document : (j : ℕ) (met ids : List ℕ) → ids ≡ drop j met → j < length met → None ≡ slice_get ids 0 → ⊥
no_document j met ids is low none =
    let more = at_front met j _ (slice_get-get_or met j 0 low) in
    let some : slice_get ids 0 ≡ Some (get_or met j 0) = ap (λ l. slice_get l 0) (is ∙ more) in
    cc

pub loop-index-init : goal.loop-index-init
loop-index-init g c =
    let proof : Proof = c.args.proof.now in
    let here : Documents = documents_of c.in-Some.docs in
    record {
      tried = λ docs is.
          let same : here ≡ docs = cc (c.in-Some.ensures.documents, is) in
          begins g.H.HashKind.hash c.args.query.now proof docs (ids_of c.in-Some.docs) (doc_leaves_of c.in-Some.docs) (sections_of c.in-Some.docs) c.args.work.now.marks
          c.in-Some.ensures.met (ap (λ (d : Documents). d.leaves) same) (ap (λ (d : Documents). d.sections) same) c.requires.marks c.requires.free;
      room = refl;
      cost = omega arith;
      most = omega (
        arith,
        section_items proof.met proof.docs here c.in-Some.ensures.documents c.in-Some.ensures.each.leaf_each,
        ap (λ (ids : List ℕ). length ids) c.in-Some.ensures.met,
      );
    }

pub unreachable-requires : goal.unreachable-requires
unreachable-requires g c =
    let proof : Proof = c.args.proof.now in
    let t = c.loop-index.invariant.tried (documents_of c.in-Some.docs) c.in-Some.ensures.documents in
    no_document c.loop-index.index proof.met (ids_of c.loop-index.left) t.ids_left (omega (arith, c.loop-index-test.true, c.met-index-end.ensures)) c.in_default-next.ensures.doc

pub document-requires-clause-each : goal.document-requires-clause-each
document-requires-clause-each g c =
    let query = c.args.query.now in
    let proof : Proof = c.args.proof.now in
    let docs : Documents = documents_of c.in-Some.docs in
    let t = c.loop-index.invariant.tried (documents_of c.in-Some.docs) c.in-Some.ensures.documents in
    let section : TermsSection = section_of c.in-Some-next.doc in
    let at = first_at g.H.HashKind.hash query proof docs docs.sections (sections_of c.loop-index.left) c.loop-index.index section t.sections_left c.in-Some-next.ensures.section in
    let slots : length section.slots ≡ present_in proof.slots =
    at_place (λ (s : TermsSection). length s.slots ≡ present_in proof.slots) docs.sections c.loop-index.index section c.in-Some.ensures.each.slot_each at in
    slots ∙ sym (kept_count query proof c.requires.slots) ∙ ap (λ (terms : List PresentTerm). length terms) (sym c.requires.terms)

pub document-requires-clause-spots : goal.document-requires-clause-spots
document-requires-clause-spots g c =
    let proof : Proof = c.args.proof.now in
    let docs : Documents = documents_of c.in-Some.docs in
    let section : TermsSection = section_of c.in-Some-next.doc in
    let at = first_at g.H.HashKind.hash c.args.query.now proof docs docs.sections (sections_of c.loop-index.left) c.loop-index.index section (c.loop-index.invariant.tried docs c.in-Some.ensures.documents).sections_left c.in-Some-next.ensures.section in
    (at_place IsSectionInRange docs.sections c.loop-index.index section (c.facts.ensures.range.shown docs c.in-Some.ensures.documents).sections at).spots

pub document-requires-clause-numbers : goal.document-requires-clause-numbers
document-requires-clause-numbers g c =
    subst (All (λ (term : PresentTerm). term.number < length c.args.query.now)) (sym c.requires.terms) (kept_within c.args.query.now c.args.proof.now c.requires.slots)

pub noted-requires-clause-inside : goal.noted-requires-clause-inside
noted-requires-clause-inside g c =
    let t = c.loop-index.invariant.tried (documents_of c.in-Some.docs) c.in-Some.ensures.documents in
    omega (arith, t.size, c.loop-index-test.true, c.met-index-end.ensures)

pub returns-in_err-score-clause-fault : goal.returns-in_err-score-clause-fault
returns-in_err-score-clause-fault g c =
    let H = g.H.HashKind.hash in
    let query = c.args.query.now in
    let proof : Proof = c.args.proof.now in
    let one = document_of c.in-Some-next.doc in
    let refusal : Refusal = c.in_err-score.field-0.0 in
    let numbers : numbers_of c.args.terms.now ≡ present_numbers proof = ap numbers_of c.requires.terms ∙ kept_numbers query proof c.requires.slots in
    let first = subst (λ (ns : List ℕ). IsFirstFault (document_rules H query ns one) refusal) numbers c.in_err-score.ensures.fault in
    let fault = fails H query proof (documents_of c.in-Some.docs) c.loop-index.index (ids_of c.loop-index.left) (doc_leaves_of c.loop-index.left) (sections_of c.loop-index.left)
    c.loop-index.work.marks one.doc one.leaf one.section refusal c.in-Some.ensures.documents (c.loop-index.invariant.tried (documents_of c.in-Some.docs) c.in-Some.ensures.documents) c.in-Some-next.ensures.doc c.in-Some-next.ensures.leaf c.in-Some-next.ensures.section first in
    passed_on (IsDocumentsFault H query proof) c.from_residual.result refusal c.from_residual.ensures.1 fault

pub returns-in_err-score-clause-most : goal.returns-in_err-score-clause-most
returns-in_err-score-clause-most g c =
    let left = taken (sections_of c.loop-index.left) (sections_of c.next.new.self) (section_of c.in-Some-next.doc) c.in-Some-next.ensures.section c.in-Some-next.ensures.passed_sections in
    let ids = taken (ids_of c.loop-index.left) (ids_of c.next.new.self) _ c.in-Some-next.ensures.doc c.in-Some-next.ensures.passed_ids in
    omega (
      arith,
      c.document.ensures.most,
      c.next.ensures.cost,
      sum_taken items_of_section (sections_of c.loop-index.left) (sections_of c.next.new.self) (section_of c.in-Some-next.doc) left,
      ap (λ (is : List ℕ). length is) ids,
      c.loop-index.invariant.most,
    )

pub loop-index-preserved : goal.loop-index-preserved
loop-index-preserved g c =
    let H = g.H.HashKind.hash in
    let query = c.args.query.now in
    let proof : Proof = c.args.proof.now in
    let j : ℕ = c.loop-index.index in
    let one = document_of c.in-Some-next.doc in
    let numbers : numbers_of c.args.terms.now ≡ present_numbers proof = ap numbers_of c.requires.terms ∙ kept_numbers query proof c.requires.slots in
    let right = subst (λ (ns : List ℕ). IsDocumentRight H query ns one) numbers c.in_ok-score.ensures.right in
    let left = taken (sections_of c.loop-index.left) (sections_of c.next.new.self) one.section c.in-Some-next.ensures.section c.in-Some-next.ensures.passed_sections in
    let ids = taken (ids_of c.loop-index.left) (ids_of c.next.new.self) one.doc c.in-Some-next.ensures.doc c.in-Some-next.ensures.passed_ids in
    let scores = subst (λ (terms : List PresentTerm). c.in_ok-score.score ≡ looked_score (λ i other. impact_shown one.section i) (bare_lanes terms) one.doc) c.requires.terms c.in_ok-score.ensures.score in
    record {
      tried = λ docs is. tries H query proof docs j (ids_of c.loop-index.left) (ids_of c.next.new.self) (doc_leaves_of c.loop-index.left) (doc_leaves_of c.next.new.self)
          (sections_of c.loop-index.left) (sections_of c.next.new.self) c.loop-index.work.marks c.noted.new.work.marks one.doc one.leaf one.section c.in_ok-score.score c.args.threshold
          c.facts.ensures.range.ids.rise (c.loop-index.invariant.tried docs is) c.in-Some-next.ensures.doc c.in-Some-next.ensures.leaf c.in-Some-next.ensures.section
          c.in-Some-next.ensures.passed_ids c.in-Some-next.ensures.passed_leaves c.in-Some-next.ensures.passed_sections right scores c.in_ok-score.ensures.small c.requires.threshold
          c.noted.ensures.marks;
      room = c.noted.ensures.room ∙ c.loop-index.invariant.room;
      cost = omega (arith, c.noted.ensures.cost, c.document.ensures.cost, c.next.ensures.cost, c.loop-index.invariant.cost);
      most = omega (
        arith,
        c.noted.ensures.cost,
        c.document.ensures.most,
        c.next.ensures.cost,
        sum_taken items_of_section (sections_of c.loop-index.left) (sections_of c.next.new.self) one.section left,
        ap (λ (is : List ℕ). length is) ids,
        c.loop-index.invariant.most,
      );
    }

pub returns-clause-right : goal.returns-clause-right
returns-clause-right g c =
    all_right g.H.HashKind.hash c.args.query.now c.args.proof.now (documents_of c.in-Some.docs) c.loop-index.index (ids_of c.loop-index.left) (doc_leaves_of c.loop-index.left)
    (sections_of c.loop-index.left) c.loop-index.work.marks c.in-Some.ensures.documents (omega (arith, c.loop-index-test.false, c.met-index-end.ensures))
    (c.loop-index.invariant.tried (documents_of c.in-Some.docs) c.in-Some.ensures.documents)

pub returns-clause-marks : goal.returns-clause-marks
returns-clause-marks g c =
    all_marks g.H.HashKind.hash c.args.query.now c.args.proof.now (documents_of c.in-Some.docs) c.loop-index.index (ids_of c.loop-index.left) (doc_leaves_of c.loop-index.left)
    (sections_of c.loop-index.left) c.loop-index.work.marks c.in-Some.ensures.documents (omega (arith, c.loop-index-test.false, c.met-index-end.ensures))
    (c.loop-index.invariant.tried (documents_of c.in-Some.docs) c.in-Some.ensures.documents)

pub returns-clause-free : goal.returns-clause-free
returns-clause-free g c = (c.loop-index.invariant.tried (documents_of c.in-Some.docs) c.in-Some.ensures.documents).free
