use Rattle.ats_proof.proofs.Unique.{one_join}
use Rattle.ats_proof.proofs.laws.proofs_have_one_spelling.Goals as goal

pub returns : goal.returns
returns c = one_join
