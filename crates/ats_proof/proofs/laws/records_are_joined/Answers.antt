use Rattle.ats_proof.proofs.Appending.{after-writing}
use Rattle.ats_proof.proofs.laws.records_are_joined.Goals as goal

pub returns : goal.returns
returns c limit bytes more = after-writing limit bytes more
