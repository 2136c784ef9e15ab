use Rattle.ats_client.proofs.OneRefusal.{one_shown_refusal, not_both_shown}
use Rattle.ats_client.proofs.laws.shown_proofs_have_one_refusal.Goals as goal

pub returns-clause-one : goal.returns-clause-one
returns-clause-one g c = one_shown_refusal g.H.HashKind.hash

pub returns-clause-none : goal.returns-clause-none
returns-clause-none g c = not_both_shown g.H.HashKind.hash
