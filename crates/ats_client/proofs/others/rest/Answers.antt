use Rattle.std.proofs.Common.{◌∙◌}
use Rattle.ats_client.proofs.Rests.{rest_is}
use Rattle.ats_client.proofs.others.rest.Goals as goal

pub returns-clause-rest : goal.returns-clause-rest
returns-clause-rest c query left = c.greatest.ensures.most ∙ rest_is query c.args.proof.now c.args.work.now.marks c.args.threshold left c.requires.noted
