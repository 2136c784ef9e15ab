use Rattle.std.proofs.Common.{◌≡◌, ◌≤◌, ◌*◌, ◌^◌, take}
use Rattle.ats_bound.specs.Schedule.{whole_lanes}
use Rattle.ats_tra.specs.Inner.Looked.{score_by}
use Rattle.ats_tra.proofs.looking.score.Given as goal

-- the score by the first lanes
abbrev pub invariant-loop-i : goal.invariant-loop-i
invariant-loop-i g l = record {
  sum : l.sum ≡ score_by (g.A.RandomAccess.table l.access) (take l.i (whole_lanes l.lanes)) l.doc;
  few : l.sum ≤ l.i * 2 ^ 32;
}
