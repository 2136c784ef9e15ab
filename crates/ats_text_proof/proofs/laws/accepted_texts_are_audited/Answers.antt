use Rattle.ats_text_proof.proofs.Verdicts.{told}
use Rattle.ats_text_proof.proofs.laws.accepted_texts_are_audited.Goals as goal

pub returns : goal.returns
returns g c root doc bytes proof says accepts = told g.H.HashKind.hash g.H.HashKind.sized root doc bytes proof says accepts
