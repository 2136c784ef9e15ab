use Rattle.std.proofs.Common.{◌≡◌, ◌≤◌, ◌+◌, true, take}
use Rattle.ats_all_check.specs.Documents.{are_present}
use Rattle.ats_all_check.proofs.slots.are_present.Given as goal

abbrev pub invariant-loop-i : goal.invariant-loop-i
invariant-loop-i l = record {
  all : are_present (take l.i l.proof.slots) ≡ true;
  cost : l.steps ≤ l.fn.steps + l.i;
}
