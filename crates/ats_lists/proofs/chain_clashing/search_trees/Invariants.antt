use Rattle.std.proofs.Common.{◌≡◌, ◌+◌, ◌*◌, ◌≤◌, length, take, drop, map, min}
use Rattle.std.specs.List.{range_with_len}
use Rattle.std.specs.Option.{option_map}
use Rattle.ats_tree.specs.Part.{shown_from}
use Rattle.ats_lists.specs.ChainPrefix.{block_root}
use Rattle.ats_lists.specs.ChainClash.{list_difference_of}
use Rattle.ats_lists.specs.Inner.ChainClash.{IsFirstInTrees}
use Rattle.ats_lists.proofs.BlockLemmas.{taken}
use Rattle.ats_lists.proofs.chain_clashing.search_trees.Given as goal

abbrev pub invariant-loop-j : goal.invariant-loop-j
invariant-loop-j g l = record {
  leaves_left : g.R.Revealed.shown l.revealed ≡ shown_from (64 * l.j) (g.R.Revealed.shown l.fn.revealed);
  digests_left : g.R.Revealed.digests l.revealed
      ≡ drop (taken l.fn.f (g.R.Revealed.shown l.fn.revealed) l.j) (g.R.Revealed.digests l.fn.revealed);
  enough : taken l.fn.f (g.R.Revealed.shown l.fn.revealed) l.j ≤ length (g.R.Revealed.digests l.fn.revealed);
  size : length l.roots ≡ length l.fn.roots;
  right : take l.j l.roots
      ≡ map (block_root g.H.HashKind.hash l.fn.f (g.R.Revealed.shown l.fn.revealed) (g.R.Revealed.digests l.fn.revealed)) (range_with_len 0 l.j);
  first : IsFirstInTrees g.H.HashKind.hash (g.O.OwnList.ours l.own) l.fn.f (g.R.Revealed.shown l.fn.revealed) (g.R.Revealed.digests l.fn.revealed)
      l.j l.first.block (option_map list_difference_of l.first.clash);
  ahead : l.j ≤ l.first.block → length l.fn.roots ≤ l.first.block;
  cost : l.steps + 2 * l.j ≤ l.fn.steps + 5 * min l.fn.f (64 * l.j);
}
