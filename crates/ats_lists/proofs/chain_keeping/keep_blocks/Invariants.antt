use Rattle.std.proofs.Common.{◌≡◌, ℕ, ◌+◌, ◌*◌, ◌<◌, ◌≤◌, length, min}
use Rattle.ats_lists.specs.Blocks.{blocks_in}
use Rattle.ats_lists.specs.Chain.{chain_from}
use Rattle.ats_lists.specs.Inner.KeptChain.{digests_in}
use Rattle.ats_lists.proofs.KeptChains.{block_digests}
use Rattle.ats_lists.proofs.chain_keeping.keep_blocks.Given as goal

abbrev pub invariant-loop-j : goal.invariant-loop-j
invariant-loop-j g l = record {
  inside : l.j ≤ blocks_in (length (g.L.Leaves.items l.leaves));
  linked : l.next ≡ chain_from g.H.HashKind.hash (g.L.Leaves.items l.leaves) l.j;
  kept : (i : ℕ) → l.j ≤ i → i < blocks_in (length (g.L.Leaves.items l.leaves))
      → digests_in l.digests i ≡ block_digests g.H.HashKind.hash (g.L.Leaves.items l.leaves) i;
  cost : l.steps + 2 * min (length (g.L.Leaves.items l.leaves)) (64 * l.j) ≡ l.fn.steps + 2 * length (g.L.Leaves.items l.leaves);
}
