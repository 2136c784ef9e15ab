use Rattle.std.proofs.Common.{ℕ, List, inl, inr, ap, ◌∙◌}
use Rattle.ats_catalog_audit.proofs.Public.{collision-collides}
use Rattle.ats_console.specs.RejectionLines.{refused_line}
use Rattle.ats_console.specs.declared.stops.Stop.TheVariants.{Rejected, Collision}
use Rattle.ats_auditors.specs.Audited.{catalog_audit}
use Rattle.ats_auditors.proofs.AuditEnds.{collision_stops}
use Rattle.ats_auditors.proofs.catalogs.audit_to_lines.Goals as goal

pub returns-in-Refused-clause-stop : goal.returns-in-Refused-clause-stop
returns-in-Refused-clause-stop g c catalog query r bytes is =
    inr (inl (inr (c.in-Refused.refusal, (rw c.in-Refused.is at c.in-Ok.ensures catalog query r bytes is), c.refused.ensures ∙ ap (λ (words : List ℕ). Rejected (refused_line words)) c.catalog_refusal_words.ensures)))

pub returns-in_ok-lines-in-Collision-clause-stop : goal.returns-in_ok-lines-in-Collision-clause-stop
returns-in_ok-lines-in-Collision-clause-stop g c catalog query r bytes is =
    let H = g.H.HashKind.hash in
    let found = rw c.in-Collision.is at c.in-Ok.ensures catalog query r bytes is in
    collision_stops H (catalog_audit H catalog query r) bytes found.shards _ _ found.accepted found.found
    (collision-collides H catalog query found.shards _ found.found) (ap Collision (c.made.ensures ∙ c.in_ok-lines-in-Collision.ensures))
