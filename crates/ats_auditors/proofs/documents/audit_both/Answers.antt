use Rattle.std.proofs.Common.{◌∙◌, vec_items, sym, ap}
use Rattle.ats_plan.proofs.Public.{leads_none}
use Rattle.ats_console.specs.Words.{AuditBothWords}
use Rattle.ats_console.specs.Print.{lines_of_documents}
use Rattle.ats_console.proofs.Public.{passed, text_stops, leads_query, leads_bytes, leads_index, same_bytes, at_bytes, at_index, still_bytes, still_index}
use Rattle.ats_auditors.specs.Audited.{both_audit}
use Rattle.ats_auditors.specs.Commands.{IsBothAudited}
use Rattle.ats_auditors.proofs.AuditEnds.{audit_stops, audit_end}
use Rattle.ats_auditors.proofs.documents.audit_both.Goals as goal

pub returns-in_err-asked-clause-stop : goal.returns-in_err-asked-clause-stop
returns-in_err-asked-clause-stop g c =
    passed _ c.from_residual.result c.from_residual.ensures.1 (text_stops leads_none c.in_err-asked.field-0.0 c.in_err-asked.ensures.fault)

pub returns-in_err-loaded-clause-stop : goal.returns-in_err-loaded-clause-stop
returns-in_err-loaded-clause-stop g c =
    passed _ c.from_residual-in_err-loaded.result c.from_residual-in_err-loaded.ensures.1
    ((leads_query leads_none c.in_ok-asked.ensures.ok).stops _ _ (at_index c.in_err-loaded.ensures.stop))

pub returns-in-Err-clause-stop : goal.returns-in-Err-clause-stop
returns-in-Err-clause-stop g c =
    (leads_index (leads_query leads_none c.in_ok-asked.ensures.ok) c.in_ok-loaded.ensures.ok).stops _ _ (at_bytes c.in-Err.ensures.stop)

pub returns-clause-stop : goal.returns-clause-stop
returns-clause-stop g c =
    audit_stops g.H.HashKind.hash (both_audit g.H.HashKind.hash c.in_ok-loaded.loaded c.in_ok-asked.asked) c.in-Ok.bytes
    (leads_bytes (leads_index (leads_query leads_none c.in_ok-asked.ensures.ok) c.in_ok-loaded.ensures.ok) c.in-Ok.ensures.ok)
    c.audit_both_to_lines-text.result (rw c.as_slice.ensures at c.audit_both_to_lines-text.ensures.stop)

pub returns-clause-ok : goal.returns-clause-ok
returns-clause-ok g c =
    let H = g.H.HashKind.hash in
    let words : AuditBothWords = record { index = c.args.index.now; query = c.args.query.now; proof = c.args.proof.now } in
    let query = c.in_ok-asked.asked in
    let archive = c.in_ok-loaded.loaded in
    let bytes = c.in-Ok.bytes in
    audit_end H (both_audit H archive query) bytes (λ files text. IsBothAudited H files words text)
    (leads_bytes (leads_index (leads_query leads_none c.in_ok-asked.ensures.ok) c.in_ok-loaded.ensures.ok) c.in-Ok.ensures.ok)
    vec_items c.audit_both_to_lines-text.result (rw c.as_slice.ensures at c.audit_both_to_lines-text.ensures.ok)
    (λ text is. let found = is.1 in (
      found.proof,
      found.accepted,
      found.none,
      record {
        query = query;
        asked = c.in_ok-asked.ensures.ok;
        archive = archive;
        index = still_index c.in_ok-loaded.ensures.ok (same_bytes c.in-Ok.ensures.ok);
        clear = record {
          checked = record { bytes = bytes; file = still_bytes c.in-Ok.ensures.ok; value = found.proof; accepted = found.accepted };
          none = found.none;
        };
        right = sym found.shown ∙ found.right;
        printed = is.2 ∙ ap lines_of_documents found.shown;
      },
    ))
