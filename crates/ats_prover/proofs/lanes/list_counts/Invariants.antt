use Rattle.std.proofs.Common.{◌≡◌, length, map, take}
use Rattle.ats_bound.specs.Schedule.{WholeLane, whole_lanes}
use Rattle.ats_prover.proofs.lanes.list_counts.Given as goal

-- the counts of the lists so far
abbrev pub invariant-loop-lane : goal.invariant-loop-lane
invariant-loop-lane l = l.counts ≡ map (λ (lane : WholeLane). length lane.entries) (take l.lane-index (whole_lanes l.lanes))
