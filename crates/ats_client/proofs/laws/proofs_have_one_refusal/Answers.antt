use Rattle.ats_client.proofs.OneRefusal.{one_refusal, not_both}
use Rattle.ats_client.proofs.laws.proofs_have_one_refusal.Goals as goal

pub returns-clause-one : goal.returns-clause-one
returns-clause-one g c = one_refusal g.H.HashKind.hash

pub returns-clause-none : goal.returns-clause-none
returns-clause-none g c = not_both g.H.HashKind.hash
