use Rattle.ats_accepts.proofs.HonestStrings.{honest_own, honest_unclashing, proved_unclashing}
use Rattle.ats_accepts.proofs.laws.honest_proofs_have_no_clash.Goals as goal

pub returns-clause-ours : goal.returns-clause-ours
returns-clause-ours g c = honest_own g.H.HashKind.hash

pub returns-clause-none : goal.returns-clause-none
returns-clause-none g c = honest_unclashing g.H.HashKind.hash

pub returns-clause-bytes : goal.returns-clause-bytes
returns-clause-bytes g c = proved_unclashing g.H.HashKind.hash
