use Rattle.std.proofs.Common.{◌↔◌, ℕ, false, List, length, subst}
use Rattle.std.specs.Bool.{IsTrue}
use Rattle.ats_bound.specs.declared.bracket.Bracket.{Bracket}
use Rattle.ats_bound.specs.Chosen.{IsChosen}
use Rattle.ats_bound.specs.Cut.{bracket, threshold}
use Rattle.ats_bound.specs.Cursors.{Stage, shown_on}
use Rattle.ats_bound.specs.Floors.{AreWithin, Floors, IsWithinBy}
use Rattle.ats_bound.specs.Running.{Standing}
use Rattle.ats_bound.proofs.Chain.{chosen_are_picks}
use Rattle.ats_bound.proofs.Crowded.{none_where_unshown}
use Rattle.ats_bound.proofs.One.{risen_are_distinct}
use Rattle.ats_bound.proofs.RunningSettled.{within_exactly, within_no}
use Rattle.ats_bound.proofs.running.Running.within.Goals as goal

pub returns-then-find-clause-within : goal.returns-then-find-clause-within
returns-then-find-clause-within c =
    let floors : Floors = record { spans = c.args.spans.now; floor = c.args.floor } in
    subst (λ (s : Standing). IsTrue false ↔ IsWithinBy bracket s.lanes floors s.cut) c.self.view_is
    (within_no c.self.inside.cursors floors (λ is. none_where_unshown c.self.inside.cursors c.self.inside.known floors c.self.invariant.known is (c.find.ensures c.if-find.true)))

pub choose_rows-requires : goal.choose_rows-requires
choose_rows-requires c = rw c.as_slice.ensures (risen_are_distinct c.in_ok-brackets.brackets c.in_ok-brackets.ensures.rise)

pub within-requires : goal.within-requires
within-requires c =
    let brackets : List Bracket = c.in_ok-brackets.brackets in
    let picks : List ℕ = c.in_ok-picks.picks in
    let chosen : IsChosen brackets (length c.args.spans.now) picks = rw c.as_slice.ensures at c.in_ok-picks.ensures in
    record { picks = rw (c.as_slice-2.ensures, c.as_slice-3.ensures) (chosen_are_picks brackets (length c.args.spans.now) picks chosen) }

pub returns-clause-within : goal.returns-clause-within
returns-clause-within c =
    let stage : Stage = c.self.inside.cursors in
    let floors : Floors = record { spans = c.args.spans.now; floor = c.args.floor } in
    let brackets : List Bracket = c.in_ok-brackets.brackets in
    let picks : List ℕ = c.in_ok-picks.picks in
    let chosen : IsChosen brackets (length c.args.spans.now) picks = rw c.as_slice.ensures at c.in_ok-picks.ensures in
    let test : IsTrue c.within.result ↔ AreWithin brackets picks (threshold (shown_on stage)) floors =
    rw (c.as_slice-2.ensures, c.as_slice-3.ensures, c.threshold-threshold.ensures) at c.within.ensures in
    subst (λ (s : Standing). IsTrue c.within.result ↔ IsWithinBy bracket s.lanes floors s.cut) c.self.view_is
    (within_exactly stage floors brackets picks c.within.result c.in_ok-brackets.ensures chosen test)
