use Rattle.ats_proof.proofs.Unique.{one_value}
use Rattle.ats_proof.proofs.laws.bytes_say_one_proof.Goals as goal

pub returns : goal.returns
returns c = one_value
