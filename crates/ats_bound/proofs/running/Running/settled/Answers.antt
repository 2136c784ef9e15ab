use Rattle.std.proofs.Common.{◌≡◌, ◌<◌, ◌≤◌, ◌↔◌, ℕ, true, false, List, sym, subst, arith, ◌∙◌}
use Rattle.std.specs.Bool.{IsTrue}
use Rattle.std.specs.Result.{OnErr}
use Rattle.std.specs.declared.result.Result.{Result}
use Rattle.std.specs.declared.result.Result.TheVariants.{Err, Ok}
use Rattle.ats_bound.specs.declared.bracket.Bracket.{Bracket}
use Rattle.ats_bound.specs.Chosen.{IsChosen}
use Rattle.ats_bound.specs.Cut.{bracket, threshold}
use Rattle.ats_bound.specs.Cursors.{Stage, shown_on}
use Rattle.ats_bound.specs.QuickTest.{PassesQuickTest, TellsSettled}
use Rattle.ats_bound.specs.Running.{Standing, shown_in}
use Rattle.ats_bound.specs.Schedule.{AreBracketsOf}
use Rattle.ats_bound.specs.Settled.{IsSettled}
use Rattle.ats_bound.proofs.Chain.{chosen_are_picks}
use Rattle.ats_bound.proofs.One.{risen_are_distinct}
use Rattle.ats_bound.proofs.RunningSettled.{none_where_high, none_where_open, passes_where_low, tells_at_zero, tells_exactly, tells_no, tells_no_rows}
use Rattle.ats_bound.proofs.running.Running.settled.Goals as goal

pub returns-then-rows-eq0-clause-told : goal.returns-then-rows-eq0-clause-told
returns-then-rows-eq0-clause-told c =
    subst (λ (s : Standing). TellsSettled bracket s.lanes s.rows s.cut true) c.self.view_is (tells_no_rows c.self.inside.cursors c.self.inside.rows c.if-rows-eq0.true)

pub returns-then-threshold-eq0-clause-told : goal.returns-then-threshold-eq0-clause-told
returns-then-threshold-eq0-clause-told c =
    subst (λ (s : Standing). TellsSettled bracket s.lanes s.rows s.cut true) c.self.view_is (tells_at_zero c.self.inside.cursors c.self.inside.rows (sym c.threshold-threshold.ensures ∙ c.if-threshold-eq0.true))

pub returns-then-threshold-score-clause-told : goal.returns-then-threshold-score-clause-told
returns-then-threshold-score-clause-told c =
    let stage : Stage = c.self.inside.cursors in
    let high : c.least-score.result < threshold (shown_on stage) = subst (λ (t : ℕ). c.least-score.result < t) c.threshold-threshold.ensures c.if-threshold-score.true in
    subst (λ (s : Standing). TellsSettled bracket s.lanes s.rows s.cut false) c.self.view_is
    (tells_no stage c.self.inside.rows (none_where_high stage c.self.inside.rows c.self.inside.known c.self.inside.best c.self.invariant (omega (arith, c.if-rows-eq0.false)) c.least-score.result c.least-score.ensures high))

pub returns-then-stands-clause-told : goal.returns-then-stands-clause-told
returns-then-stands-clause-told c =
    let stage : Stage = c.self.inside.cursors in
    subst (λ (s : Standing). TellsSettled bracket s.lanes s.rows s.cut false) c.self.view_is
    (tells_no stage c.self.inside.rows (λ can.
    none_where_open stage c.self.inside.rows c.self.inside.known c.self.inside.best c.self.invariant (omega (arith, c.if-rows-eq0.false)) c.least-score.result c.least-score.ensures
    (λ zero. c.if-threshold-eq0.false (c.threshold-threshold.ensures ∙ zero)) can (c.stands.ensures c.if-stands.true)))

-- what holds, holds after an error
always : {T E P : Type 0} (r : Result T E) → P → OnErr r P
always (Ok x) holds = tt
always (Err e) holds = holds

passes : (stage : Stage) (standing : Standing) (rows : ℕ) → record { lanes = stage.lanes; rows = rows; cut = stage.cut } ≡ standing
    → ((brackets : List Bracket) → AreBracketsOf (shown_on stage) brackets → PassesQuickTest brackets (threshold (shown_on stage)) rows)
    → (brackets : List Bracket) → AreBracketsOf (shown_in standing) brackets → PassesQuickTest brackets (threshold (shown_in standing)) standing.rows
passes stage standing rows is all =
    subst (λ (s : Standing). (brackets : List Bracket) → AreBracketsOf (shown_in s) brackets → PassesQuickTest brackets (threshold (shown_in s)) s.rows) is all

pub returns-in_err-brackets-clause-wanted : goal.returns-in_err-brackets-clause-wanted
returns-in_err-brackets-clause-wanted c =
    let stage : Stage = c.self.inside.cursors in
    let low : threshold (shown_on stage) ≤ c.least-score.result = subst (λ (t : ℕ). t ≤ c.least-score.result) c.threshold-threshold.ensures c.if-threshold-score.false in
    always c.from_residual.result
    (passes stage c.args.self.now c.self.inside.rows c.self.view_is (λ brackets are.
    passes_where_low stage c.self.inside.rows c.self.inside.known c.self.inside.best c.self.invariant (omega (arith, c.if-rows-eq0.false)) c.least-score.result c.least-score.ensures brackets low
    (λ zero. c.if-threshold-eq0.false (c.threshold-threshold.ensures ∙ zero)) are))

pub choose_rows-requires : goal.choose_rows-requires
choose_rows-requires c = rw c.as_slice.ensures (risen_are_distinct c.in_ok-brackets.brackets c.in_ok-brackets.ensures.rise)

pub returns-in_err-picks-clause-wanted : goal.returns-in_err-picks-clause-wanted
returns-in_err-picks-clause-wanted c =
    let stage : Stage = c.self.inside.cursors in
    let low : threshold (shown_on stage) ≤ c.least-score.result = subst (λ (t : ℕ). t ≤ c.least-score.result) c.threshold-threshold.ensures c.if-threshold-score.false in
    always c.from_residual-in_err-picks.result
    (passes stage c.args.self.now c.self.inside.rows c.self.view_is (λ brackets are.
    passes_where_low stage c.self.inside.rows c.self.inside.known c.self.inside.best c.self.invariant (omega (arith, c.if-rows-eq0.false)) c.least-score.result c.least-score.ensures brackets low
    (λ zero. c.if-threshold-eq0.false (c.threshold-threshold.ensures ∙ zero)) are))

pub rows_settled-requires-clause-distinct : goal.rows_settled-requires-clause-distinct
rows_settled-requires-clause-distinct c = rw c.as_slice-2.ensures (risen_are_distinct c.in_ok-brackets.brackets c.in_ok-brackets.ensures.rise)

pub rows_settled-requires-clause-picks : goal.rows_settled-requires-clause-picks
rows_settled-requires-clause-picks c =
    let chosen : IsChosen c.in_ok-brackets.brackets c.self.inside.rows c.in_ok-picks.picks = rw c.as_slice.ensures at c.in_ok-picks.ensures in
    rw (c.as_slice-2.ensures, c.as_slice-3.ensures) (chosen_are_picks c.in_ok-brackets.brackets c.self.inside.rows c.in_ok-picks.picks chosen)

pub returns-clause-told : goal.returns-clause-told
returns-clause-told c =
    let stage : Stage = c.self.inside.cursors in
    let brackets : List Bracket = c.in_ok-brackets.brackets in
    let picks : List ℕ = c.in_ok-picks.picks in
    let chosen : IsChosen brackets c.self.inside.rows picks = rw c.as_slice.ensures at c.in_ok-picks.ensures in
    let is : IsTrue c.rows_settled.result ↔ IsSettled brackets picks (threshold (shown_on stage)) c.self.inside.rows =
    rw (c.as_slice-2.ensures, c.as_slice-3.ensures, c.threshold-threshold.ensures) at c.rows_settled.ensures in
    subst (λ (s : Standing). TellsSettled bracket s.lanes s.rows s.cut c.rows_settled.result) c.self.view_is
    (tells_exactly stage c.self.inside.rows brackets picks c.rows_settled.result c.in_ok-brackets.ensures chosen is)
