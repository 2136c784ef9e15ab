use Rattle.ats_all_proof.proofs.Told.{told}
use Rattle.ats_all_proof.proofs.laws.accepted_documents_are_both.Goals as goal

pub returns : goal.returns
returns g c root query bytes proof asked accepted = told g.H.HashKind.hash g.H.HashKind.sized root query bytes proof asked accepted
