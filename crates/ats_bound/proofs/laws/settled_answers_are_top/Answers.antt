use Rattle.ats_bound.proofs.Ranking.{settled_is_top}
use Rattle.ats_bound.proofs.laws.settled_answers_are_top.Goals as goal

pub returns : goal.returns
returns c n r score lanes brackets picks are of_met hold inside settled =
    settled_is_top n score lanes brackets picks are of_met hold inside settled.once r settled
