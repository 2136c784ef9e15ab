use Rattle.ats_accepts.proofs.Accepted.{proved_accepted}
use Rattle.ats_accepts.proofs.AcceptedRows.{honest_accepted}
use Rattle.ats_accepts.proofs.laws.honest_proofs_are_accepted.Goals as goal

pub returns-clause-proof : goal.returns-clause-proof
returns-clause-proof g c = honest_accepted g.H.HashKind.hash

pub returns-clause-bytes : goal.returns-clause-bytes
returns-clause-bytes g c = proved_accepted g.H.HashKind.hash
