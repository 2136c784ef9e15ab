use Rattle.std.proofs.Common.{◌<◌, ℕ, List, length, subst, arith, add-one, take_all}
use Rattle.ats_prover.specs.Inner.Writing.{AreSectionsWritten, IsSectionWritten}
use Rattle.ats_prover.proofs.MetLeaves.{no_sections, sections_more}
use Rattle.ats_prover.proofs.documents.write_sections.Goals as goal

pub loop-doc-init : goal.loop-doc-init
loop-doc-init g c = record {
  written = no_sections g.H.HashKind.hash c.args.index.now.texts c.args.present.now c.args.writer.now c.requires.started;
  size = omega arith;
}

pub loop-doc-preserved : goal.loop-doc-preserved
loop-doc-preserved g c =
    let H = g.H.HashKind.hash in
    let i = c.loop-doc.doc-index in
    let inside : i < length c.args.met.now = omega (arith, c.loop-doc-test.true) in
    let own = subst (λ (items : List (List ℕ × ℕ)). IsSectionWritten H items c.args.present.now c.loop-doc.writer c.write_section.new.writer) c.doc_terms-terms.ensures c.in_ok-write_section.ensures.written in
    record {
      written = rw add-one (sections_more H c.args.index.now.texts c.args.present.now c.args.met.now i c.args.writer.now c.loop-doc.writer c.write_section.new.writer inside c.loop-doc.invariant.written own);
      size = omega (arith, c.in_ok-write_section.ensures.size, c.loop-doc.invariant.size);
    }

pub returns-clause-written : goal.returns-clause-written
returns-clause-written g c =
    subst (λ (met : List ℕ). AreSectionsWritten g.H.HashKind.hash c.args.index.now.texts c.args.present.now met c.args.writer.now c.loop-doc.writer)
    (take_all c.loop-doc.doc-index c.args.met.now (omega (arith, c.loop-doc-test.false))) c.loop-doc.invariant.written
