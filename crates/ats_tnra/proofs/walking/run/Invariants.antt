use Rattle.std.proofs.Common.{◌≡◌}
use Rattle.std.specs.List.{sum_by}
use Rattle.ats_bound.specs.Running.{shown_in}
use Rattle.ats_bound.specs.Schedule.{whole_lanes}
use Rattle.ats_bound.specs.Inner.Stopped.{IsReached}
use Rattle.ats_bound.proofs.Public.{hidden}
use Rattle.ats_tnra.specs.Inner.Ends.{EndsAt, rows_of}
use Rattle.ats_tnra.proofs.walking.run.Given as goal

abbrev pub invariant-loop-lane : goal.invariant-loop-lane
invariant-loop-lane l = record {
  lanes : l.walk.lanes ≡ whole_lanes l.lanes;
  rows : l.walk.rows ≡ rows_of l.top l.spans;
  reached : IsReached (EndsAt (whole_lanes l.lanes) l.top (record { spans = l.spans; floor = l.floor })) (whole_lanes l.lanes) l.walk.cut;
}

abbrev pub decreases-loop-lane : goal.decreases-loop-lane
decreases-loop-lane l = sum_by hidden (shown_in l.walk)
