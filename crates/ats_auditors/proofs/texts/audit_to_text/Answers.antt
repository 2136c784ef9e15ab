use Rattle.std.proofs.Common.{ap, ◌∙◌}
use Rattle.ats_text_proof.proofs.Public.{collision-collides}
use Rattle.ats_console.specs.declared.stops.Stop.TheVariants.{Collision}
use Rattle.ats_auditors.specs.Audited.{text_audit}
use Rattle.ats_auditors.proofs.AuditEnds.{collision_stops}
use Rattle.ats_auditors.proofs.texts.audit_to_text.Goals as goal

pub returns-in_ok-lines-in-Collision-clause-stop : goal.returns-in_ok-lines-in-Collision-clause-stop
returns-in_ok-lines-in-Collision-clause-stop g c =
    let H = g.H.HashKind.hash in
    let found = rw c.in-Collision.is at c.in-Ok.ensures.verdict in
    collision_stops H (text_audit H c.args.index.now c.args.doc) c.args.bytes.now found.proof _ _ found.accepted found.found
    (collision-collides H c.args.index.now c.args.doc found.proof _ found.found) (ap Collision (c.made.ensures ∙ c.in_ok-lines-in-Collision.ensures))
