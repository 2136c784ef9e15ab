use Rattle.std.proofs.Common.{ap, ◌∙◌}
use Rattle.ats_growth_proof.proofs.Public.{collision-collides}
use Rattle.ats_console.specs.declared.stops.Stop.TheVariants.{Collision}
use Rattle.ats_auditors.specs.Audited.{growth_audit}
use Rattle.ats_auditors.proofs.AuditEnds.{collision_stops}
use Rattle.ats_auditors.proofs.growths.audit_to_line.Goals as goal

pub returns-in_ok-lines-in-Collision-clause-stop : goal.returns-in_ok-lines-in-Collision-clause-stop
returns-in_ok-lines-in-Collision-clause-stop g c =
    let H = g.H.HashKind.hash in
    let found = rw c.in-Collision.is at c.in-Ok.ensures.verdict in
    let lines = rw (c.as_slice.ensures, c.as_slice-in-Collision.ensures) at c.in_ok-lines-in-Collision.ensures in
    collision_stops H (growth_audit H c.args.older.now c.args.newer.now) c.args.bytes.now found.growth _ _ found.accepted found.found
    (collision-collides H c.args.older.now c.args.newer.now found.growth _ found.found) (ap Collision (c.made.ensures ∙ lines))
