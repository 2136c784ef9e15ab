use Rattle.ats_honest.proofs.Exists.{honest_exists}
use Rattle.ats_honest.proofs.laws.honest_proofs_exist.Goals as goal

pub returns : goal.returns
returns g c archive query r algorithm are is = honest_exists g.H.HashKind.hash archive query r algorithm are is
