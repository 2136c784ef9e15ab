use Rattle.std.proofs.Common.{◌≡◌, ◌+◌, take}
use Rattle.ats_client.specs.Inner.Bounds.{most_outside}
use Rattle.ats_client.proofs.others.greatest.Given as goal

abbrev pub invariant-loop-i : goal.invariant-loop-i
invariant-loop-i l = record {
  most : l.most ≡ most_outside l.threshold (take l.i l.work.marks);
  steps : l.steps ≡ l.initial.steps + l.i;
}
