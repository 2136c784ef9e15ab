use Rattle.std.proofs.Common.{◌≡◌, ◌+◌, ◌*◌, ◌≤◌, length, take, drop, map, min}
use Rattle.std.specs.List.{range_with_len}
use Rattle.ats_tree.specs.Part.{shown_from}
use Rattle.ats_lists.specs.ChainPrefix.{block_root}
use Rattle.ats_lists.proofs.BlockLemmas.{taken, inner_before}
use Rattle.ats_lists.proofs.chain_rebuilding.rebuild_blocks.Given as goal

abbrev pub invariant-loop-j : goal.invariant-loop-j
invariant-loop-j g l = record {
  leaves_left : g.R.Revealed.shown l.revealed ≡ shown_from (64 * l.j) (g.R.Revealed.shown l.fn.revealed);
  digests_left : g.R.Revealed.digests l.revealed
      ≡ drop (taken l.fn.f (g.R.Revealed.shown l.fn.revealed) l.j) (g.R.Revealed.digests l.fn.revealed);
  enough : taken l.fn.f (g.R.Revealed.shown l.fn.revealed) l.j ≤ length (g.R.Revealed.digests l.fn.revealed);
  size : length l.roots ≡ length l.fn.roots;
  right : take l.j l.roots
      ≡ map (block_root g.H.HashKind.hash l.fn.f (g.R.Revealed.shown l.fn.revealed) (g.R.Revealed.digests l.fn.revealed)) (range_with_len 0 l.j);
  cost : l.steps + 2 * length (g.R.Revealed.shown l.revealed) + length (g.R.Revealed.digests l.revealed)
      ≤ l.fn.steps + 2 * length (g.R.Revealed.shown l.fn.revealed) + length (g.R.Revealed.digests l.fn.revealed)
      + inner_before l.fn.f (g.R.Revealed.shown l.fn.revealed) l.j;
  by_items : l.steps + 3 * length (g.R.Revealed.shown l.revealed) + 2 * length (g.R.Revealed.digests l.revealed) + l.j
      ≤ l.fn.steps + 3 * length (g.R.Revealed.shown l.fn.revealed) + 2 * length (g.R.Revealed.digests l.fn.revealed);
  by_places : l.steps + l.j ≤ l.fn.steps + 3 * min l.fn.f (64 * l.j);
}
