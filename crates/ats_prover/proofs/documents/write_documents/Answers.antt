use Rattle.std.proofs.Common.{subst, sym}
use Rattle.std.proofs.lemmas.Result.{on_ok_weaker}
use Rattle.ats_proof.specs.declared.record.Algorithm.{Algorithm}
use Rattle.ats_prover.specs.Inner.Writing.{AreDocumentsWritten}
use Rattle.ats_prover.proofs.MetLeaves.{no_documents, written_documents}
use Rattle.ats_prover.proofs.Putting.{started}
use Rattle.ats_prover.proofs.documents.write_documents.Goals as goal

pub write_sections-requires-clause-started : goal.write_sections-requires-clause-started
write_sections-requires-clause-started g c = started c.args.writer.now c.write_tree.new.writer _ c.in_ok-write_tree-in-Tra.ensures.fields

pub returns-in_ok-write_tree-in-Tra-clause-written : goal.returns-in_ok-write_tree-in-Tra-clause-written
returns-in_ok-write_tree-in-Tra-clause-written g c =
    let H = g.H.HashKind.hash in
    on_ok_weaker c.write_sections.result (λ is.
    subst (λ (a : Algorithm). AreDocumentsWritten a H c.args.index.now.texts c.args.present.now c.args.met.now c.args.writer.now c.write_sections.new.writer) (sym c.in-Tra.is)
    (written_documents H g.H.HashKind.sized c.args.index.now.texts c.args.present.now c.args.met.now c.args.writer.now c.write_tree.new.writer c.write_sections.new.writer
    c.in_ok-write_tree-in-Tra.ensures.small c.in_ok-write_tree-in-Tra.ensures.few c.in_ok-write_tree-in-Tra.ensures.fields is)) c.write_sections.ensures.written

pub returns-in-Tnra-clause-written : goal.returns-in-Tnra-clause-written
returns-in-Tnra-clause-written g c =
    subst (λ (a : Algorithm). AreDocumentsWritten a g.H.HashKind.hash c.args.index.now.texts c.args.present.now c.args.met.now c.args.writer.now c.args.writer.now) (sym c.in-Tnra.is)
    (no_documents g.H.HashKind.hash c.args.index.now.texts c.args.present.now c.args.met.now c.args.writer.now c.requires.started)
