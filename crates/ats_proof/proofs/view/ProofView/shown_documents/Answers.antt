use Rattle.std.proofs.Common.{◌∙◌, sym, ap, arith}
use Rattle.std.proofs.lemmas.List.{length-drop}
use Rattle.ats_proof.specs.Parts.{parts_in, counted_in}
use Rattle.ats_proof.specs.Reading.{id_size, id_in, doc_size, doc_in, digest_size, digest_in, section_size, section_in, doc_digests_place, proof_in}
use Rattle.ats_proof.specs.Runs.{shown_docs}
use Rattle.ats_proof.specs.Value.{Proof}
use Rattle.ats_proof.proofs.InRange.{in_range}
use Rattle.ats_proof.proofs.Showing.{ids_space, ids_shown, knows_documents, answer_space, leaves_space, digests_start, sections_fit, rise, documents_shown}
use Rattle.ats_proof.proofs.view.ProofView.shown_documents.Goals as goal

pub split_at-requires : goal.split_at-requires
split_at-requires c =
    omega (arith, c.self.invariant.first.met_at, c.self.invariant.space.docs)

pub split_at-requires-2 : goal.split_at-requires-2
split_at-requires-2 c =
    omega (arith, c.self.invariant.docs_at, c.self.invariant.space.docs)

pub split_at-requires-3 : goal.split_at-requires-3
split_at-requires-3 c =
    let view = c.self.inside in
    let tra = knows_documents view c.self.invariant c.args.self.now c.self.view_is c.requires in
    let at = c.self.invariant.rest.doc_digests tra in
    omega (arith, at, answer_space view c.self.invariant tra)

pub counted_digests_4-digests-requires : goal.counted_digests_4-digests-requires
counted_digests_4-digests-requires c =
    let view = c.self.inside in
    let tra = knows_documents view c.self.invariant c.args.self.now c.self.view_is c.requires in
    let bytes = view.bytes.now in
    rw (c.split_at-3.ensures.back, digests_start view c.self.invariant tra) (omega (arith, answer_space view c.self.invariant tra, length-drop (doc_digests_place bytes) bytes))

pub split_at-requires-4 : goal.split_at-requires-4
split_at-requires-4 c =
    let view = c.self.inside in
    let tra = knows_documents view c.self.invariant c.args.self.now c.self.view_is c.requires in
    let at = c.self.invariant.rest.sections tra in
    omega (arith, at, answer_space view c.self.invariant tra)

pub invariant_of-whole : goal.invariant_of-whole
invariant_of-whole c =
    let view = c.self.inside in
    let tra = knows_documents view c.self.invariant c.args.self.now c.self.view_is c.requires in
    record {
      ids_space = rw c.split_at.ensures.back (ids_space view c.self.invariant);
      leaves_space = rw c.split_at-2.ensures.back (leaves_space view c.self.invariant tra);
      rises = rw (c.split_at.ensures.back, ids_shown view c.self.invariant) (in_range view.bytes.now (proof_in view.bytes.now) c.self.invariant.spelled).ids.rise;
    }

pub invariant_of-result : goal.invariant_of-result
invariant_of-result c =
    let view = c.self.inside in
    let tra = knows_documents view c.self.invariant c.args.self.now c.self.view_is c.requires in
    record {
      ids_space = rw c.split_at.ensures.back (ids_space view c.self.invariant);
      leaves_space = rw c.split_at-2.ensures.back (leaves_space view c.self.invariant tra);
      fits = rw c.split_at-4.ensures.back (sections_fit view c.self.invariant tra);
      rise = rw c.split_at-4.ensures.back (rise view c.self.invariant tra);
    }

pub returns-clause-documents : goal.returns-clause-documents
returns-clause-documents c =
    let view = c.self.inside in
    let tra = knows_documents view c.self.invariant c.args.self.now c.self.view_is c.requires in
    let present = view.begun.present in
    ap (λ (p : Proof). p.docs) (sym c.self.view_is)
    ∙ documents_shown view c.self.invariant tra _ _ _ (ap (parts_in doc_size doc_in view.begun.met) c.split_at-2.ensures.back)
    (c.counted_digests_4-digests.ensures ∙ ap (counted_in 4 digest_size digest_in) c.split_at-3.ensures.back)
    (ap (parts_in (section_size present) (section_in present) view.begun.met) c.split_at-4.ensures.back)

pub returns-clause-met : goal.returns-clause-met
returns-clause-met c =
    let view = c.self.inside in ap (parts_in id_size id_in view.begun.met) c.split_at.ensures.back ∙ ids_shown view c.self.invariant ∙ ap (λ (p : Proof). p.met) c.self.view_is

pub returns-clause-whole : goal.returns-clause-whole
returns-clause-whole c =
    let view = c.self.inside in
    ap (λ met. shown_docs met (parts_in doc_size doc_in view.begun.met c.split_at-2.result.1.now)) (ap (parts_in id_size id_in view.begun.met) c.split_at.ensures.back ∙ ids_shown view c.self.invariant ∙ ap (λ (p : Proof). p.met) c.self.view_is)
