use Rattle.std.proofs.Common.{◌≡◌, ℕ, List, length, true, sym, subst}
use Rattle.std.specs.Prelude.{None}
use Rattle.ats_bound.specs.declared.walk.Walk.{Walk}
use Rattle.ats_bound.specs.Cut.{bracket}
use Rattle.ats_bound.specs.Floors.{Floors, IsFirstWithinBy, IsWithinBy}
use Rattle.ats_bound.specs.Running.{Standing}
use Rattle.ats_bound.specs.Schedule.{AreBracketsBy, WholeLane, shown, whole_lanes}
use Rattle.ats_bound.specs.Stopped.{IsStoppedAt}
use Rattle.ats_bound.proofs.Public.{first_here, within_there}
use Rattle.ats_tnra.specs.Inner.Ends.{HasRun}
use Rattle.ats_tnra.proofs.Turns.{ends_nowhere, stopped_of}
use Rattle.ats_tnra.proofs.walking.walk_within.Goals as goal

pub returns-then-not-branch-clause-cut : goal.returns-then-not-branch-clause-cut
returns-then-not-branch-clause-cut c =
    let lanes : List WholeLane = whole_lanes c.args.lanes.now in
    let walk : Standing = c.in_ok-walk.walk in
    let floors : Floors = record { spans = c.args.spans.now; floor = c.args.floor } in
    let run : HasRun lanes None floors walk = c.in_ok-walk.ensures in
    ends_nowhere lanes None floors walk c.requires run (λ is.
    let there : IsWithinBy bracket walk.lanes floors walk.cut = subst (λ (ls : List WholeLane). IsWithinBy bracket ls floors walk.cut) (sym run.lanes_are) is in
    let yes : c.in_ok-is_reached.field-0 ≡ true = c.in_ok-is_reached.ensures.reached.1 there in absurd (cc))

pub returns : goal.returns
returns c =
    let lanes : List WholeLane = whole_lanes c.args.lanes.now in
    let walk : Standing = c.in_ok-walk.walk in
    let end : Walk = c.in_ok-finish.field-0 in
    let floors : Floors = record { spans = c.args.spans.now; floor = c.args.floor } in
    let run : HasRun lanes None floors walk = c.in_ok-walk.ensures in
    let is : IsWithinBy bracket lanes floors walk.cut = subst (λ (ls : List WholeLane). IsWithinBy bracket ls floors walk.cut) run.lanes_are (c.in_ok-is_reached.ensures.reached.0 c.if-not-branch.false) in
    let finish : IsStoppedAt bracket walk.lanes walk.rows walk.cut end = rw c.is_reached.ensures.same at c.in_ok-finish.ensures in
    let stopped : IsStoppedAt bracket lanes (length floors.spans) walk.cut end = stopped_of lanes (length floors.spans) walk end run.lanes_are run.rows finish in
    record {
      cut = subst (λ (cut : List ℕ). IsFirstWithinBy bracket lanes floors cut) (sym stopped.cut) (first_here (IsWithinBy bracket lanes floors) lanes walk.cut run.reached is);
      brackets = subst (λ (cut : List ℕ). AreBracketsBy bracket (shown lanes cut) end.brackets) (sym stopped.cut) stopped.brackets;
      threshold = rw stopped.cut stopped.threshold;
      picks = stopped.chosen;
      within = within_there bracket lanes floors walk.cut end stopped is;
    }
