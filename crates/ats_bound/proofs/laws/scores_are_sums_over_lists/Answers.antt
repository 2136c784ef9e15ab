use Rattle.ats_bound.proofs.Texts.{score_listed}
use Rattle.ats_bound.proofs.laws.scores_are_sums_over_lists.Goals as goal

pub returns : goal.returns
returns c texts query doc low = score_listed texts query doc low
