use Rattle.std.proofs.Common.{◌≡◌, ◌+◌, ◌≤◌, length, drop}
use Rattle.ats_lists.specs.Chain.{chain_digest}
use Rattle.ats_lists.proofs.chain_rebuilding.link_blocks.Given as goal

abbrev pub invariant-loop-j : goal.invariant-loop-j
invariant-loop-j g l = record {
  inside : l.j ≤ length l.roots;
  linked : l.digest ≡ chain_digest g.H.HashKind.hash (drop l.j l.roots) l.fn.next;
  count : l.steps + l.j ≡ l.fn.steps + length l.roots;
}
