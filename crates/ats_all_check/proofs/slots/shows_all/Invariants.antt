use Rattle.std.proofs.Common.{◌≡◌, ◌≤◌, ◌+◌, true, take}
use Rattle.ats_proof.specs.SeenDocs.{section_of}
use Rattle.ats_all_check.specs.Documents.{are_present}
use Rattle.ats_all_check.proofs.slots.shows_all.Given as goal

abbrev pub invariant-loop-i : goal.invariant-loop-i
invariant-loop-i l = record {
  all : are_present (take l.i (section_of l.doc).slots) ≡ true;
  cost : l.steps ≤ l.fn.steps + l.i;
}
