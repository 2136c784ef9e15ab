use Rattle.std.proofs.Common.{◌≡◌, ◌+◌, ◌-◌, ◌*◌, ◌≤◌, length, map, drop, min}
use Rattle.std.specs.List.{range_with_len}
use Rattle.std.specs.Option.{option_map, option_or}
use Rattle.ats_tree.specs.Differences.{first_collision}
use Rattle.ats_lists.specs.Chain.{chain_digest}
use Rattle.ats_lists.specs.ChainClash.{list_difference_of}
use Rattle.ats_lists.specs.Inner.ChainClash.{link_at}
use Rattle.ats_lists.proofs.chain_clashing.search_links.Given as goal

abbrev pub invariant-loop-j : goal.invariant-loop-j
invariant-loop-j g l = record {
  inside : l.j ≤ length l.roots;
  linked : l.digest ≡ chain_digest g.H.HashKind.hash (drop l.j l.roots) l.fn.next;
  found : option_map list_difference_of l.clash ≡ option_or (first_collision g.H.HashKind.hash (g.O.OwnList.ours l.own)
      (map (link_at g.H.HashKind.hash l.roots l.fn.next) (range_with_len l.j (min (length l.roots) (l.first.block + 1) - l.j))))
      (option_map list_difference_of l.first.clash);
  count : l.steps + 2 * l.j ≤ l.fn.steps + 2 * length l.roots;
}
