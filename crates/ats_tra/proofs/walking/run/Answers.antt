use Rattle.std.proofs.Common.{◌≡◌, ◌↔◌, ℕ, List, true, refl, sym, ap, subst, ◌∙◌, inl, inr, arith}
use Rattle.std.specs.Bool.{IsTrue}
use Rattle.std.proofs.lemmas.List.{length-map}
use Rattle.ats_bound.specs.Cut.{threshold}
use Rattle.ats_bound.specs.Cursors.{Stage}
use Rattle.ats_bound.specs.Lookup.{Table, looked_up}
use Rattle.ats_bound.specs.Schedule.{AreAllShown, AreBracketsBy, Bounding, IsNextLane, WholeLane, shown, whole_lanes, whole_lane}
use Rattle.ats_bound.specs.Scored.{AreFirstScores, ScoredStanding}
use Rattle.ats_bound.proofs.Public.{fewer_hidden, reached_after, reached_first}
use Rattle.ats_tra.specs.Inner.Ends.{EndsAt}
use Rattle.ats_tra.specs.Inner.Looked.{score_by}
use Rattle.ats_tra.proofs.Turns.{looked_there, test_there}
use Rattle.ats_tra.proofs.walking.run.Goals as goal

pub loop-lane-init : goal.loop-lane-init
loop-lane-init g c =
    let table : Table = g.A.RandomAccess.table c.args.access.now in
    let lanes : List WholeLane = whole_lanes c.args.lanes.now in
    let score : ℕ → ℕ = score_by table lanes in
    let first : AreFirstScores score lanes c.in_ok-scores.scores.items = λ i inside apart. sym (c.in_ok-scores.ensures.scores i (omega (arith, inside, length-map c.args.lanes.now whole_lane))) in
    record {
      lanes = ap (λ (s : Stage). s.lanes) c.in_ok-walk.ensures.stage;
      rows = c.in_ok-walk.ensures.rows ∙ c.rows.ensures;
      known = c.in_ok-walk.ensures.brackets score (rw c.deref.ensures.value first);
      reached = rw (ap (λ (s : Stage). s.cut) c.in_ok-walk.ensures.stage) (reached_first (EndsAt (looked_up table) lanes c.args.end.now) lanes);
    }

pub loop-lane-smaller : goal.loop-lane-smaller
loop-lane-smaller g c =
    let stage : Stage = c.loop-lane.walk.stage in
    let next : IsNextLane stage.lanes stage.cut c.in-Some.lane = c.in-Some.ensures.next in
    rw (c.advance.ensures.lanes, c.in_ok-advance.ensures.cut) (fewer_hidden stage.lanes stage.cut c.in-Some.lane c.next_lane.ensures.stage.cut next.inside next.more)

pub loop-lane-preserved : goal.loop-lane-preserved
loop-lane-preserved g c =
    let table : Table = g.A.RandomAccess.table c.args.access.now in
    let bounds : Bounding = looked_up table in
    let lanes : List WholeLane = whole_lanes c.args.lanes.now in
    let walk : ScoredStanding = c.loop-lane.walk in
    let cut : List ℕ = walk.stage.cut in
    let next : IsNextLane lanes cut c.in-Some.lane = subst (λ (ls : List WholeLane). IsNextLane ls cut c.in-Some.lane) c.loop-lane.invariant.lanes c.in-Some.ensures.next in
    let known : AreBracketsBy bounds (shown lanes cut) walk.brackets = looked_there table lanes walk.stage walk.brackets c.loop-lane.invariant.lanes c.next_lane.ensures.stage c.loop-lane.invariant.known in
    let test : IsTrue c.is_reached.result ↔ EndsAt bounds lanes c.args.end.now cut = test_there bounds lanes c.args.end.now walk c.is_reached.result c.loop-lane.invariant.lanes c.is_reached.ensures known in
    let cannot : EndsAt bounds lanes c.args.end.now cut → ⊥ = λ ends. let is : c.is_reached.result ≡ true = test.1 ends in absurd (cc) in
    record {
      lanes = c.advance.ensures.lanes ∙ c.loop-lane.invariant.lanes;
      rows = c.advance.ensures.rows ∙ c.loop-lane.invariant.rows;
      known = c.in_ok-advance.ensures.brackets (score_by table lanes) c.loop-lane.invariant.known (λ _. sym (c.score_at-score.ensures ∙ ap (score_by table lanes) c.next_document-doc.ensures));
      reached = rw (c.in_ok-advance.ensures.cut) (reached_after (EndsAt bounds lanes c.args.end.now) lanes cut c.in-Some.lane c.loop-lane.invariant.reached cannot next);
    }

pub returns-then-is_reached : goal.returns-then-is_reached
returns-then-is_reached g c =
    let table : Table = g.A.RandomAccess.table c.args.access.now in
    let bounds : Bounding = looked_up table in
    let lanes : List WholeLane = whole_lanes c.args.lanes.now in
    let walk : ScoredStanding = c.loop-lane.walk in
    let cut : List ℕ = walk.stage.cut in
    let known : AreBracketsBy bounds (shown lanes cut) walk.brackets = looked_there table lanes walk.stage walk.brackets c.loop-lane.invariant.lanes c.next_lane.ensures.stage c.loop-lane.invariant.known in
    let test : IsTrue c.is_reached.result ↔ EndsAt bounds lanes c.args.end.now cut = test_there bounds lanes c.args.end.now walk c.is_reached.result c.loop-lane.invariant.lanes c.is_reached.ensures known in
    record {
      lanes_are = c.loop-lane.invariant.lanes;
      rows = c.loop-lane.invariant.rows;
      stands = c.next_lane.ensures.stage;
      brackets = known;
      reached = c.loop-lane.invariant.reached;
      ended = inl (test.0 c.if-is_reached.true);
    }

pub returns : goal.returns
returns g c =
    let table : Table = g.A.RandomAccess.table c.args.access.now in
    let lanes : List WholeLane = whole_lanes c.args.lanes.now in
    let walk : ScoredStanding = c.loop-lane.walk in
    let cut : List ℕ = walk.stage.cut in
    record {
      lanes_are = c.loop-lane.invariant.lanes;
      rows = c.loop-lane.invariant.rows;
      stands = c.next_lane.ensures.stage;
      brackets = looked_there table lanes walk.stage walk.brackets c.loop-lane.invariant.lanes c.next_lane.ensures.stage c.loop-lane.invariant.known;
      reached = c.loop-lane.invariant.reached;
      ended = inr (
        subst (λ (ls : List WholeLane). threshold (shown ls cut) ≡ 0) c.loop-lane.invariant.lanes c.in_default.ensures.next,
        subst (λ (ls : List WholeLane). AreAllShown (shown ls cut)) c.loop-lane.invariant.lanes (c.in_default.ensures.whole.0 refl),
      );
    }
