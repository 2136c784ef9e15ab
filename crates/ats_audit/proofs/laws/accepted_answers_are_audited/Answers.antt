use Rattle.ats_audit.proofs.Told.{told}
use Rattle.ats_audit.proofs.laws.accepted_answers_are_audited.Goals as goal

pub returns : goal.returns
returns g c root query r bytes proof asked accepted = told g.H.HashKind.hash g.H.HashKind.sized root query r bytes proof asked accepted
