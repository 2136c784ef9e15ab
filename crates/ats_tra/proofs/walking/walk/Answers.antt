use Rattle.std.proofs.Common.{List}
use Rattle.ats_bound.specs.declared.walk.Walk.{Walk}
use Rattle.ats_bound.specs.Inner.Stopped.{IsEnd}
use Rattle.ats_bound.specs.Lookup.{looked_up}
use Rattle.ats_bound.specs.Schedule.{Bounding, WholeLane, whole_lanes}
use Rattle.ats_bound.specs.Scored.{ScoredStanding}
use Rattle.ats_bound.specs.Stopped.{IsStoppedAt}
use Rattle.ats_bound.proofs.Public.{looked_up_are_narrow}
use Rattle.ats_tra.proofs.Turns.{finished, settled_end}
use Rattle.ats_tra.proofs.walking.walk.Goals as goal

pub returns : goal.returns
returns g c =
    let table = g.A.RandomAccess.table c.args.access.now in
    let bounds : Bounding = looked_up table in
    let lanes : List WholeLane = whole_lanes c.args.lanes.now in
    let walk : ScoredStanding = c.in_ok-walk.walk in
    let end : Walk = c.in_ok-finish.field-0 in
    let run = c.in_ok-walk.ensures in
    let stopped : IsStoppedAt bounds lanes c.args.top walk.stage.cut end = finished bounds lanes c.args.top walk end run.lanes_are run.rows
    c.in_ok-finish.ensures.cut c.in_ok-finish.ensures.brackets c.in_ok-finish.ensures.threshold c.in_ok-finish.ensures.picks c.in_ok-finish.ensures.inside c.in_ok-finish.ensures.best run.brackets in
    let is : IsEnd bounds lanes c.args.top end = settled_end bounds lanes c.args.top walk end (looked_up_are_narrow table) run stopped in record {
      cut = is.first;
      brackets = is.stopped.brackets;
      threshold = is.stopped.threshold;
      picks = is.stopped.chosen;
      settled = is.settled;
    }
