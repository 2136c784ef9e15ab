use Rattle.std.proofs.Common.{◌≤◌, ◌+◌, ◌*◌, ◌^◌, take}
use Rattle.ats_prover.specs.Inner.Writing.{AreSectionsWritten}
use Rattle.ats_prover.proofs.documents.write_sections.Given as goal

-- the sections so far
abbrev pub invariant-loop-doc : goal.invariant-loop-doc
invariant-loop-doc g l = record {
  written : AreSectionsWritten g.H.HashKind.hash l.index.texts l.present (take l.doc-index l.met) l.fn.writer l.writer;
  size : l.writer.asked ≤ l.fn.writer.asked + 2 ^ 23 * l.doc-index;
}
