use Rattle.std.proofs.Common.{◌≡◌, ◌+◌, ◌≤◌, ◌++◌, length}
use Rattle.std.specs.List.{All}
use Rattle.ats_lists.specs.Formats.{first_leaves}
use Rattle.ats_index.proofs.fronts.first_shown.Given as goal

-- the leaves so far are taken
abbrev pub invariant-loop-i : goal.invariant-loop-i
invariant-loop-i g l = record {
  same : g.S.PartialTree.shown l.fn.shown ≡ first_leaves l.entries l.i ++ g.S.PartialTree.shown l.shown;
  digests : g.S.PartialTree.digests l.shown ≡ g.S.PartialTree.digests l.fn.shown;
  short : All (λ s. length s.1 ≤ 127) (g.S.PartialTree.shown l.shown);
  cost : l.steps ≤ l.fn.steps + l.i;
}
