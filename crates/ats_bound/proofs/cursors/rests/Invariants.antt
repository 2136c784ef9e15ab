use Rattle.std.proofs.Common.{◌≡◌, map, take}
use Rattle.ats_bound.specs.Cut.{rest}
use Rattle.ats_bound.specs.Schedule.{shown, whole_lanes}
use Rattle.ats_bound.proofs.cursors.rests.Given as goal

-- the rests of the first lanes
abbrev pub invariant-loop-i : goal.invariant-loop-i
invariant-loop-i l = l.rests.items ≡ map rest (take l.i (shown (whole_lanes l.lanes) l.counts))
