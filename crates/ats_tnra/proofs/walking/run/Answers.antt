use Rattle.std.proofs.Common.{◌≡◌, ℕ, List, true, refl, sym, subst}
use Rattle.ats_bound.specs.Floors.{Floors}
use Rattle.ats_bound.specs.Running.{Standing}
use Rattle.ats_bound.specs.Schedule.{IsCut, IsNextLane, WholeLane, whole_lanes}
use Rattle.ats_bound.specs.Inner.Stopped.{IsReached}
use Rattle.ats_bound.proofs.Public.{fewer_hidden, have_entries, reached_after, reached_first, scheduled_is_cut}
use Rattle.ats_tnra.specs.Inner.Ends.{EndsAt}
use Rattle.ats_tnra.proofs.walking.run.Goals as goal

pub loop-lane-init : goal.loop-lane-init
loop-lane-init c = rw c.in_ok-walk.ensures (record {
  lanes = refl;
  rows = refl;
  reached = reached_first (EndsAt (whole_lanes c.args.lanes.now) c.args.top.now (record { spans = c.args.spans.now; floor = c.args.floor })) (whole_lanes c.args.lanes.now);
})

pub loop-lane-smaller : goal.loop-lane-smaller
loop-lane-smaller c =
    let walk : Standing = c.loop-lane.walk in
    let i : ℕ = c.in-Some.lane in
    let floors : Floors = record { spans = c.args.spans.now; floor = c.args.floor } in
    let lanes : List WholeLane = whole_lanes c.args.lanes.now in
    let next : IsNextLane walk.lanes walk.cut i = c.in-Some.ensures.next in
    let reached : IsReached (EndsAt lanes c.args.top.now floors) lanes walk.cut = c.loop-lane.invariant.reached in
    let is : IsCut walk.lanes walk.cut = subst (λ (ls : List WholeLane). IsCut ls walk.cut) (sym c.loop-lane.invariant.lanes) (scheduled_is_cut lanes reached.turns walk.cut (have_entries lanes c.requires) reached.scheduled) in
    rw (c.in_ok-advance.ensures.ok, c.is_reached.ensures.same) (fewer_hidden walk.lanes walk.cut i is next.inside next.more)

pub loop-lane-preserved : goal.loop-lane-preserved
loop-lane-preserved c =
    let walk : Standing = c.loop-lane.walk in
    let i : ℕ = c.in-Some.lane in
    let floors : Floors = record { spans = c.args.spans.now; floor = c.args.floor } in
    let lanes : List WholeLane = whole_lanes c.args.lanes.now in
    let next : IsNextLane lanes walk.cut i = subst (λ (ls : List WholeLane). IsNextLane ls walk.cut i) c.loop-lane.invariant.lanes c.in-Some.ensures.next in
    let cannot : EndsAt lanes c.args.top.now floors walk.cut → ⊥ = λ ends.
    let is : c.in_ok-is_reached.field-0 ≡ true = c.in_ok-is_reached.ensures.reached.1 (subst (λ (ls : List WholeLane). EndsAt ls c.args.top.now floors walk.cut) (sym c.loop-lane.invariant.lanes) ends) in
    absurd (cc) in
    rw (c.in_ok-advance.ensures.ok, c.is_reached.ensures.same) (record {
      lanes = c.loop-lane.invariant.lanes;
      rows = c.loop-lane.invariant.rows;
      reached = reached_after (EndsAt lanes c.args.top.now floors) lanes walk.cut i c.loop-lane.invariant.reached cannot next;
    })
