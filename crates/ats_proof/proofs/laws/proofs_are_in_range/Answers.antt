use Rattle.ats_proof.proofs.InRange.{in_range}
use Rattle.ats_proof.proofs.laws.proofs_are_in_range.Goals as goal

pub returns : goal.returns
returns c = in_range
