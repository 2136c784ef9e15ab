use Rattle.ats_bound.proofs.Reach.{settled_passes}
use Rattle.ats_bound.proofs.laws.settled_answers_pass_the_test.Goals as goal

pub returns : goal.returns
returns c = λ brackets picks threshold r proper inside settled. settled_passes brackets picks threshold r proper inside settled
