use Rattle.ats_top.proofs.HonestAccepted.{audit_steps_hold}
use Rattle.ats_top.proofs.laws.audits_accept_honest_proofs.Goals as goal

pub returns : goal.returns
returns g c = audit_steps_hold g.H.HashKind.hash
