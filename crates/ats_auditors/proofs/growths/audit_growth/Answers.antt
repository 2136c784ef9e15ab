use Rattle.std.proofs.Common.{◌∙◌, vec_items, sym, ap₂}
use Rattle.ats_plan.proofs.Public.{leads_none}
use Rattle.ats_console.specs.Words.{AuditGrowthWords}
use Rattle.ats_console.specs.Kinds.{line_of_grown}
use Rattle.ats_console.proofs.Public.{passed, leads_bytes, leads_index, same_bytes, same_index, at_bytes, at_index, still_bytes, still_index}
use Rattle.ats_auditors.specs.Audited.{growth_audit}
use Rattle.ats_auditors.specs.Commands.{IsGrowthAudited}
use Rattle.ats_auditors.proofs.AuditEnds.{audit_stops, audit_end}
use Rattle.ats_auditors.proofs.FoundGrows.{found_grows}
use Rattle.ats_auditors.proofs.growths.audit_growth.Goals as goal

pub returns-in_err-older-clause-stop : goal.returns-in_err-older-clause-stop
returns-in_err-older-clause-stop g c = passed _ c.from_residual.result c.from_residual.ensures.1 (at_index c.in_err-older.ensures.stop)

pub returns-in-Err-clause-stop : goal.returns-in-Err-clause-stop
returns-in-Err-clause-stop g c = (leads_index leads_none c.in_ok-older.ensures.ok).stops _ _ (at_index c.in-Err.ensures.stop)

pub returns-in-Err-shaped-clause-stop : goal.returns-in-Err-shaped-clause-stop
returns-in-Err-shaped-clause-stop g c =
    (leads_index (leads_index leads_none c.in_ok-older.ensures.ok) c.in-Ok.ensures.ok).stops _ _ (at_bytes c.in-Err-shaped.ensures.stop)

pub returns-clause-stop : goal.returns-clause-stop
returns-clause-stop g c =
    audit_stops g.H.HashKind.hash (growth_audit g.H.HashKind.hash c.in_ok-older.older c.in-Ok.newer) c.in-Ok-shaped.bytes
    (leads_bytes (leads_index (leads_index leads_none c.in_ok-older.ensures.ok) c.in-Ok.ensures.ok) c.in-Ok-shaped.ensures.ok)
    c.audit_to_line-line.result (rw c.as_slice.ensures at c.audit_to_line-line.ensures.stop)

pub returns-clause-ok : goal.returns-clause-ok
returns-clause-ok g c =
    let H = g.H.HashKind.hash in
    let words : AuditGrowthWords = record { old = c.args.old.now; new = c.args.new.now; file = c.args.file.now } in
    let older = c.in_ok-older.older in
    let newer = c.in-Ok.newer in
    let bytes = c.in-Ok-shaped.bytes in
    let same = same_bytes c.in-Ok-shaped.ensures.ok in
    let old = still_index c.in_ok-older.ensures.ok (same ∙ same_index c.in-Ok.ensures.ok) in
    let new = still_index c.in-Ok.ensures.ok same in
    audit_end H (growth_audit H older newer) bytes (λ files text. IsGrowthAudited H files words text)
    (leads_bytes (leads_index (leads_index leads_none c.in_ok-older.ensures.ok) c.in-Ok.ensures.ok) c.in-Ok-shaped.ensures.ok)
    vec_items c.audit_to_line-line.result (rw c.as_slice.ensures at c.audit_to_line-line.ensures.ok)
    (λ text is. let found = is.1 in let grows = found_grows H older newer bytes g.H.HashKind.sized old new is.0 found in (
      found.growth,
      found.accepted,
      found.none,
      record {
        older = older;
        newer = newer;
        old = old;
        new = new;
        clear = record {
          checked = record { bytes = bytes; file = still_bytes c.in-Ok-shaped.ensures.ok; value = found.growth; accepted = found.accepted };
          none = found.none;
        };
        grows = grows;
        printed = is.2 ∙ ap₂ line_of_grown (sym found.grows.old ∙ grows.old) (sym found.grows.new ∙ grows.new);
      },
    ))
