use Rattle.std.proofs.Common.{ap, ◌∙◌}
use Rattle.ats_client.proofs.Public.{collision-collides}
use Rattle.ats_console.specs.declared.stops.Stop.TheVariants.{Collision}
use Rattle.ats_auditors.specs.Audited.{both_audit}
use Rattle.ats_auditors.proofs.AuditEnds.{collision_stops}
use Rattle.ats_auditors.proofs.documents.audit_both_to_lines.Goals as goal

pub returns-in_ok-lines-in-Collision-clause-stop : goal.returns-in_ok-lines-in-Collision-clause-stop
returns-in_ok-lines-in-Collision-clause-stop g c =
    let H = g.H.HashKind.hash in
    let found = rw c.in-Collision.is at c.in-Ok.ensures in
    let lines = rw (c.bytes.ensures.value, c.bytes-in-Collision.ensures.value) at c.in_ok-lines-in-Collision.ensures in
    collision_stops H (both_audit H c.args.index.now c.args.query.now) c.args.bytes.now found.proof _ _ found.accepted found.found
    (collision-collides H c.args.index.now c.args.query.now found.proof _ found.found) (ap Collision (c.made.ensures ∙ lines))
