use Rattle.ats_honest.proofs.Short.{honest_short}
use Rattle.ats_honest.proofs.laws.honest_proofs_are_short.Goals as goal

pub returns : goal.returns
returns g c = honest_short g.H.HashKind.hash g.H.HashKind.sized
