use Rattle.std.proofs.Common.{◌≡◌, ℕ, List, sym, ap, ◌∙◌, subst}
use Rattle.ats_bound.specs.Chosen.{AreBrackets, IsChosen}
use Rattle.ats_bound.specs.Scored.{ScoredStanding}
use Rattle.ats_bound.specs.Inner.Scored.{exact_brackets}
use Rattle.ats_bound.specs.Settled.{HaveDistinctDocs}
use Rattle.ats_bound.proofs.Chain.{chosen_are_picks, chosen_is_settled}
use Rattle.ats_bound.proofs.Exactly.{scored_proper, scored_rise}
use Rattle.ats_bound.proofs.One.{risen_are_distinct}
use Rattle.ats_bound.proofs.scored.Scored.finish.Goals as goal

pub choose_rows-requires : goal.choose_rows-requires
choose_rows-requires c =
    let scores : List (ℕ × ℕ) = c.self.inside.scores.entries in
    let is : c.as_slice.result.now ≡ exact_brackets scores = c.as_slice.ensures ∙ c.in_ok-brackets.ensures in
    subst HaveDistinctDocs (sym is) (risen_are_distinct (exact_brackets scores) (scored_rise c.self.inside.cursors c.self.inside.rows scores c.self.inside.best c.self.invariant))

pub returns-clause-picks : goal.returns-clause-picks
returns-clause-picks c =
    let rows : c.self.inside.rows ≡ c.args.self.rows = ap (λ (s : ScoredStanding). s.rows) c.self.view_is in
    subst (λ (r : ℕ). IsChosen c.in_ok-brackets.brackets r c.in_ok-picks.picks) rows (rw c.as_slice.ensures at c.in_ok-picks.ensures)

pub returns-clause-inside : goal.returns-clause-inside
returns-clause-inside c = chosen_are_picks c.in_ok-brackets.brackets c.args.self.rows c.in_ok-picks.picks (returns-clause-picks c)

pub returns-clause-best : goal.returns-clause-best
returns-clause-best c = λ answer inside settled.
    let proper : AreBrackets c.in_ok-brackets.brackets = subst AreBrackets (sym c.in_ok-brackets.ensures) (scored_proper c.self.inside.scores.entries) in
    chosen_is_settled c.in_ok-brackets.brackets c.threshold-threshold.result c.args.self.rows answer c.in_ok-picks.picks proper inside settled (returns-clause-picks c)
