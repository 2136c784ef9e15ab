use Rattle.ats_bound.proofs.One.{one_bracketing}
use Rattle.ats_bound.proofs.OneCut.{one_first_settled}
use Rattle.ats_bound.proofs.OneAnswer.{one_chosen}
use Rattle.ats_bound.proofs.laws.walks_end_at_one_cut.Goals as goal

pub returns-clause-cut : goal.returns-clause-cut
returns-clause-cut c bounds lanes r a b first second = one_first_settled bounds lanes r a b first second

pub returns-clause-brackets : goal.returns-clause-brackets
returns-clause-brackets c bounds lanes a b first second = one_bracketing bounds lanes a b first second

pub returns-clause-answer : goal.returns-clause-answer
returns-clause-answer c brackets r a b distinct first second = one_chosen brackets r a b distinct first second
