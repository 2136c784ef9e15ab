use Rattle.std.proofs.Common.{List, inl, inr}
use Rattle.ats_bound.specs.declared.walk.Walk.{Walk}
use Rattle.ats_bound.specs.Cut.{bracket}
use Rattle.ats_bound.specs.Inner.Stopped.{IsEnd}
use Rattle.ats_bound.specs.Running.{Standing}
use Rattle.ats_bound.specs.Schedule.{WholeLane, whole_lanes}
use Rattle.ats_bound.specs.Stopped.{IsStoppedAt}
use Rattle.ats_bound.proofs.Public.{brackets_are_narrow, settled_there}
use Rattle.ats_tnra.proofs.Turns.{stopped_of}
use Rattle.ats_tnra.proofs.walking.walk.Goals as goal

pub returns : goal.returns
returns c =
    let lanes : List WholeLane = whole_lanes c.args.lanes.now in
    let walk : Standing = c.in_ok-walk.walk in
    let end : Walk = c.in_ok-finish.field-0 in
    let run = c.in_ok-walk.ensures in
    let stopped : IsStoppedAt bracket lanes c.args.top walk.cut end = stopped_of lanes c.args.top walk end run.lanes_are run.rows c.in_ok-finish.ensures in
    let is : IsEnd bracket lanes c.args.top end = settled_there bracket lanes c.args.top walk.cut end brackets_are_narrow run.reached stopped (elim run.ended [ inl can ↦ inl can | inr last ↦ inr last.0 ]) in record {
      cut = is.first;
      brackets = is.stopped.brackets;
      threshold = is.stopped.threshold;
      picks = is.stopped.chosen;
      settled = is.settled;
    }
