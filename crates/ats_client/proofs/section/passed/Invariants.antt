use Rattle.std.proofs.Common.{◌≡◌, ◌+◌, ◌≤◌, drop, length}
use Rattle.ats_client.proofs.section.passed.Given as goal

abbrev pub invariant-loop-i : goal.invariant-loop-i
invariant-loop-i g l = record {
  left : g.S.Section.leaves l.left ≡ drop l._i (g.S.Section.leaves l.fn.section);
  cost : l.steps ≤ l.fn.steps + l._i;
  most : l.steps + length (g.S.Section.leaves l.left) ≤ l.fn.steps + length (g.S.Section.leaves l.fn.section);
}
