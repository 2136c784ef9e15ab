use Rattle.ats_honest.proofs.OneProof.{one_proof}
use Rattle.ats_honest.proofs.laws.honest_proofs_are_one.Goals as goal

pub returns : goal.returns
returns g c archive query r algorithm a b first second = one_proof g.H.HashKind.hash archive query r algorithm a b first second
