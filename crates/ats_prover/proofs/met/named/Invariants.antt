use Rattle.std.proofs.Common.{◌≡◌, take}
use Rattle.std.specs.List.{flat_map}
use Rattle.ats_bound.specs.Schedule.{shown, whole_lanes}
use Rattle.ats_honest.proofs.Public.{docs_in}
use Rattle.ats_prover.proofs.met.named.Given as goal

-- the documents of the lanes so far
abbrev pub invariant-loop-i : goal.invariant-loop-i
invariant-loop-i l = l.named.items ≡ flat_map docs_in (take l.i (shown (whole_lanes l.lanes) l.cut))
