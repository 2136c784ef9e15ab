use Rattle.std.proofs.Common.{◌↔◌, length, subst, sym, arith}
use Rattle.std.proofs.lemmas.Bool.{false≢true, le-leb, leb-true}
use Rattle.ats_bound.specs.declared.share.Share.{Share}
use Rattle.ats_bound.specs.Cut.{threshold}
use Rattle.ats_bound.specs.Cursors.{shown_on}
use Rattle.ats_bound.specs.Floors.{IsWithinBy, floors_of_share}
use Rattle.ats_bound.specs.Schedule.{AreBracketsBy}
use Rattle.ats_bound.specs.Scored.{ScoredStanding}
use Rattle.ats_bound.proofs.Shares.{AreTested, tests_tell_within}
use Rattle.ats_bound.proofs.scored.Scored.within.Goals as goal

pub returns-then-threshold-floor : goal.returns-then-threshold-floor
returns-then-threshold-floor c = λ bounds of.
    let share : Share = record { rows = c.self.inside.rows; floor = c.args.floor } in
    let tests : AreTested share (threshold (shown_on c.self.inside.cursors)) c.least-least.result c.next-next.result (length c.self.inside.scores.entries)
    ↔ IsWithinBy bounds c.self.inside.cursors.lanes (floors_of_share share) c.self.inside.cursors.cut =
    tests_tell_within c.self.inside.cursors c.self.inside.scores.entries c.self.inside.best share c.least-least.result c.next-next.result c.self.invariant (omega arith) c.least-least.ensures c.next-next.ensures bounds
    (subst (λ (s : ScoredStanding). AreBracketsBy bounds (shown_on s.stage) s.brackets) (sym c.self.view_is) of) in
    rw (← c.self.view_is) (
      λ holds. absurd (false≢true holds),
      λ within.
          let tested : AreTested share (threshold (shown_on c.self.inside.cursors)) c.least-least.result c.next-next.result (length c.self.inside.scores.entries) = tests.1 within in
          absurd (omega (arith, tested.unmet, tested.others, tested.rows, c.threshold-threshold.ensures)),
    )

pub returns : goal.returns
returns c = λ bounds of.
    let share : Share = record { rows = c.self.inside.rows; floor = c.args.floor } in
    let tests : AreTested share (threshold (shown_on c.self.inside.cursors)) c.least-least.result c.next-next.result (length c.self.inside.scores.entries)
    ↔ IsWithinBy bounds c.self.inside.cursors.lanes (floors_of_share share) c.self.inside.cursors.cut =
    tests_tell_within c.self.inside.cursors c.self.inside.scores.entries c.self.inside.best share c.least-least.result c.next-next.result c.self.invariant (omega arith) c.least-least.ensures c.next-next.ensures bounds
    (subst (λ (s : ScoredStanding). AreBracketsBy bounds (shown_on s.stage) s.brackets) (sym c.self.view_is) of) in
    rw (← c.self.view_is) (
      λ holds. tests.0 (record {
        unmet = omega (arith, c.threshold-threshold.ensures);
        others = c.if-least-floor.false;
        rows = c.if-next-floor.false;
        full = omega (arith, leb-true c.self.inside.rows c.len.result holds, c.len.ensures.len);
      }),
      λ within. le-leb c.self.inside.rows c.len.result (omega (arith, (tests.1 within).full, c.len.ensures.len)),
    )
