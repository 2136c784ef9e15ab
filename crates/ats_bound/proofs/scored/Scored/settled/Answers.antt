use Rattle.std.proofs.Common.{◌≡◌, ◌↔◌, ℕ, List, leb, nat_eq, true, sym, ◌∙◌, arith}
use Rattle.std.specs.Bool.{IsTrue}
use Rattle.ats_bound.specs.Cut.{threshold}
use Rattle.ats_bound.specs.Cursors.{shown_on}
use Rattle.ats_bound.specs.Inner.Scored.{exact_brackets}
use Rattle.ats_bound.specs.QuickTest.{PassesQuickTest}
use Rattle.ats_bound.proofs.One.{same_doc}
use Rattle.ats_bound.proofs.Reach.{next_answers, tells_settled, zero_answers}
use Rattle.ats_bound.proofs.scored.Scored.settled.Goals as goal

pub returns-then-threshold-eq0-clause-tells : goal.returns-then-threshold-eq0-clause-tells
returns-then-threshold-eq0-clause-tells c =
    let threshold_here : ℕ = c.threshold-threshold.result in
    let scores : List (ℕ × ℕ) = c.self.inside.scores.entries in
    let holds : nat_eq threshold_here 0 ≡ true = same_doc threshold_here 0 c.if-threshold-eq0.true in
    let none : threshold (shown_on c.self.inside.cursors) ≡ 0 = sym c.threshold-threshold.ensures ∙ c.if-threshold-eq0.true in
    rw (← c.self.view_is) (
    tells_settled c.self.inside.cursors c.self.inside.rows scores c.self.inside.best (nat_eq threshold_here 0) c.self.invariant
    (zero_answers c.self.inside.rows (threshold (shown_on c.self.inside.cursors)) (exact_brackets scores) none (nat_eq threshold_here 0) holds)
    )

pub returns-else-threshold-eq0-clause-quick : goal.returns-else-threshold-eq0-clause-quick
returns-else-threshold-eq0-clause-quick c =
    rw (← c.self.view_is, ← c.threshold-threshold.ensures) (
    next_answers c.self.inside.cursors c.self.inside.rows c.self.inside.scores.entries c.self.inside.best c.threshold-threshold.result c.next.result c.self.invariant
    c.next.ensures (omega arith) c.if-threshold-eq0.false
    )

pub returns-else-threshold-eq0-clause-tells : goal.returns-else-threshold-eq0-clause-tells
returns-else-threshold-eq0-clause-tells c =
    let threshold_here : ℕ = c.threshold-threshold.result in
    let scores : List (ℕ × ℕ) = c.self.inside.scores.entries in
    let quick : IsTrue (leb threshold_here c.next.result) ↔ PassesQuickTest (exact_brackets scores) threshold_here c.self.inside.rows =
    next_answers c.self.inside.cursors c.self.inside.rows scores c.self.inside.best threshold_here c.next.result c.self.invariant c.next.ensures (omega arith) c.if-threshold-eq0.false in
    rw (← c.self.view_is) (
    tells_settled c.self.inside.cursors c.self.inside.rows scores c.self.inside.best (leb threshold_here c.next.result) c.self.invariant (rw (← c.threshold-threshold.ensures) quick)
    )
