use Rattle.std.proofs.Common.{◌≡◌, map, take}
use Rattle.ats_bound.specs.Schedule.{whole_lanes}
use Rattle.ats_honest.specs.Lanes.{lanes_of}
use Rattle.ats_prover.specs.Inner.Nodes.{list_digests}
use Rattle.ats_prover.proofs.lanes.query_lists.Given as goal

-- the lanes of the terms so far
abbrev pub invariant-loop-i : goal.invariant-loop-i
invariant-loop-i g l = record {
  lanes : whole_lanes l.lanes.items ≡ lanes_of l.index.texts (take l.i l.query);
  digests : map (λ n. n.now) l.digests.items ≡ list_digests g.H.HashKind.hash l.index.format (whole_lanes l.lanes.items);
}
