use Rattle.ats_client.proofs.OneRejection.{accepted_not_refused, one_rejection}
use Rattle.ats_client.proofs.laws.bytes_have_one_rejection.Goals as goal

pub returns-clause-one : goal.returns-clause-one
returns-clause-one g c = one_rejection g.H.HashKind.hash

pub returns-clause-none : goal.returns-clause-none
returns-clause-none g c = accepted_not_refused g.H.HashKind.hash
