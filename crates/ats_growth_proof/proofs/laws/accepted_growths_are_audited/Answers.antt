use Rattle.ats_growth_proof.proofs.Verdicts.{told}
use Rattle.ats_growth_proof.proofs.laws.accepted_growths_are_audited.Goals as goal

pub returns : goal.returns
returns g c old new bytes growth accepted = told g.H.HashKind.hash g.H.HashKind.sized old new bytes growth accepted.says accepted.accepts
