use Rattle.std.proofs.Common.{◌≡◌, ◌<◌, ℕ, length, get_or}
use Rattle.ats_bound.specs.Schedule.{whole_lanes}
use Rattle.ats_bound.specs.Scored.{first_document}
use Rattle.ats_tra.specs.Inner.Looked.{score_by}
use Rattle.ats_tra.proofs.looking.first_scores.Given as goal

abbrev pub invariant-loop-lane : goal.invariant-loop-lane
invariant-loop-lane g l = record {
  size : length l.scores.items ≡ l.lane-index;
  each : (i : ℕ) → i < l.lane-index → get_or l.scores.items i 0 ≡ score_by (g.A.RandomAccess.table l.access) (whole_lanes l.lanes) (first_document (whole_lanes l.lanes) i);
}
