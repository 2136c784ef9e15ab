use Rattle.std.proofs.Common.{ℕ, List, subst}
use Rattle.std.proofs.lemmas.Result.{IfOk-weaker}
use Rattle.std.specs.Result.{IfOk}
use Rattle.ats_bound.specs.Settled.{ArePicks, IsSettled}
use Rattle.ats_bound.specs.Chosen.{IsChosen}
use Rattle.ats_bound.proofs.Chain.{chosen_are_picks, chosen_is_settled}
use Rattle.ats_bound.proofs.choosing.choose.Goals as goal

pub returns-clause-chosen : goal.returns-clause-chosen
returns-clause-chosen c = subst (λ (r : ℕ). IfOk c.choose_rows.result (IsChosen c.args.brackets.now r)) c.get.ensures.value c.choose_rows.ensures

pub returns-clause-places : goal.returns-clause-places
returns-clause-places c =
    IfOk-weaker c.choose_rows.result (IsChosen c.args.brackets.now c.args.top) (ArePicks c.args.brackets.now) (chosen_are_picks c.args.brackets.now c.args.top) (returns-clause-chosen c)

pub returns-clause-settled : goal.returns-clause-settled
returns-clause-settled c =
    IfOk-weaker c.choose_rows.result (IsChosen c.args.brackets.now c.args.top)
    (λ picks. (threshold : ℕ) (answer : List ℕ) → ArePicks c.args.brackets.now answer
    → IsSettled c.args.brackets.now answer threshold c.args.top → IsSettled c.args.brackets.now picks threshold c.args.top)
    (λ picks is threshold answer inside settled. chosen_is_settled c.args.brackets.now threshold c.args.top answer picks c.requires.proper inside settled is)
    (returns-clause-chosen c)
