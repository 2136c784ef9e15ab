use Rattle.std.proofs.Common.{◌≡◌}
use Rattle.std.specs.List.{sum_by}
use Rattle.ats_bound.specs.Cursors.{shown_on}
use Rattle.ats_bound.specs.Lookup.{looked_up}
use Rattle.ats_bound.specs.Schedule.{AreBracketsBy, whole_lanes}
use Rattle.ats_bound.specs.Inner.Stopped.{IsReached}
use Rattle.ats_bound.specs.Scored.{exactly}
use Rattle.ats_bound.proofs.Public.{hidden}
use Rattle.ats_tra.specs.Inner.Ends.{EndsAt, rows_of}
use Rattle.ats_tra.specs.Inner.Looked.{score_by}
use Rattle.ats_tra.proofs.walking.run.Given as goal

abbrev pub invariant-loop-lane : goal.invariant-loop-lane
invariant-loop-lane g l = record {
  lanes : l.walk.stage.lanes ≡ whole_lanes l.lanes;
  rows : l.walk.rows ≡ rows_of l.end;
  known : AreBracketsBy (exactly (score_by (g.A.RandomAccess.table l.access) (whole_lanes l.lanes))) (shown_on l.walk.stage) l.walk.brackets;
  reached : IsReached (EndsAt (looked_up (g.A.RandomAccess.table l.access)) (whole_lanes l.lanes) l.end) (whole_lanes l.lanes) l.walk.stage.cut;
}

abbrev pub decreases-loop-lane : goal.decreases-loop-lane
decreases-loop-lane g l = sum_by hidden (shown_on l.walk.stage)
