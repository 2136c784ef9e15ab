use Rattle.std.proofs.Common.{◌≡◌, ◌↔◌, ℕ, List, true, sym, subst}
use Rattle.std.specs.Bool.{IsTrue}
use Rattle.ats_bound.specs.declared.walk.Walk.{Walk}
use Rattle.ats_bound.specs.Floors.{IsFirstWithinBy, IsWithinBy, floors_of_share}
use Rattle.ats_bound.specs.Lookup.{looked_up}
use Rattle.ats_bound.specs.Schedule.{AreBracketsBy, Bounding, WholeLane, shown, whole_lanes}
use Rattle.ats_bound.specs.Scored.{ScoredStanding}
use Rattle.ats_bound.specs.Stopped.{IsStoppedAt}
use Rattle.ats_tra.specs.declared.walking.End.TheVariants.{Within}
use Rattle.ats_tra.proofs.Turns.{finished, first_shown, never_shown, rows_shown, test_there}
use Rattle.ats_tra.proofs.walking.walk_within.Goals as goal

pub returns-then-not-is_reached-clause-cut : goal.returns-then-not-is_reached-clause-cut
returns-then-not-is_reached-clause-cut g c =
    let bounds : Bounding = looked_up (g.A.RandomAccess.table c.args.access.now) in
    let lanes : List WholeLane = whole_lanes c.args.lanes.now in
    let walk : ScoredStanding = c.in_ok-walk.walk in
    let run = c.in_ok-walk.ensures in
    let test : IsTrue c.is_reached.result ↔ IsWithinBy bounds lanes (floors_of_share c.args.share) walk.stage.cut =
    test_there bounds lanes (Within c.args.share) walk c.is_reached.result run.lanes_are c.is_reached.ensures run.brackets in
    never_shown bounds lanes c.args.share walk run (λ is. let yes : c.is_reached.result ≡ true = test.1 is in absurd (cc))

pub returns : goal.returns
returns g c =
    let bounds : Bounding = looked_up (g.A.RandomAccess.table c.args.access.now) in
    let lanes : List WholeLane = whole_lanes c.args.lanes.now in
    let walk : ScoredStanding = c.in_ok-walk.walk in
    let end : Walk = c.in_ok-finish.field-0 in
    let run = c.in_ok-walk.ensures in
    let test : IsTrue c.is_reached.result ↔ IsWithinBy bounds lanes (floors_of_share c.args.share) walk.stage.cut =
    test_there bounds lanes (Within c.args.share) walk c.is_reached.result run.lanes_are c.is_reached.ensures run.brackets in
    let is : IsWithinBy bounds lanes (floors_of_share c.args.share) walk.stage.cut = test.0 c.if-not-is_reached.false in
    let stopped : IsStoppedAt bounds lanes c.args.share.rows walk.stage.cut end = finished bounds lanes c.args.share.rows walk end run.lanes_are run.rows
    c.in_ok-finish.ensures.cut c.in_ok-finish.ensures.brackets c.in_ok-finish.ensures.threshold c.in_ok-finish.ensures.picks c.in_ok-finish.ensures.inside c.in_ok-finish.ensures.best run.brackets in
    record {
      cut = subst (λ (cut : List ℕ). IsFirstWithinBy bounds lanes (floors_of_share c.args.share) cut) (sym stopped.cut) (first_shown bounds lanes c.args.share walk run is);
      brackets = subst (λ (cut : List ℕ). AreBracketsBy bounds (shown lanes cut) end.brackets) (sym stopped.cut) stopped.brackets;
      threshold = rw stopped.cut stopped.threshold;
      picks = stopped.chosen;
      within = rows_shown bounds lanes c.args.share walk run end stopped is;
    }
