use Rattle.std.proofs.Common.{◌∙◌, vec_items, ap}
use Rattle.ats_text_check.specs.Value.{TextProof}
use Rattle.ats_text_check.proofs.Public.{one_text}
use Rattle.ats_plan.proofs.Public.{leads_none}
use Rattle.ats_console.specs.Words.{AuditFetchWords}
use Rattle.ats_console.specs.Kinds.{printed_text}
use Rattle.ats_console.proofs.Public.{passed, leads_bytes, leads_index, same_bytes, at_bytes, at_index, still_bytes, still_index}
use Rattle.ats_auditors.specs.Audited.{text_audit}
use Rattle.ats_auditors.specs.Commands.{IsFetchAudited}
use Rattle.ats_auditors.proofs.AuditEnds.{audit_stops, audit_end}
use Rattle.ats_auditors.proofs.texts.audit_fetch.Goals as goal

pub returns-in_err-loaded-clause-stop : goal.returns-in_err-loaded-clause-stop
returns-in_err-loaded-clause-stop g c = passed _ c.from_residual.result c.from_residual.ensures.1 (at_index c.in_err-loaded.ensures.stop)

pub returns-in-Err-clause-stop : goal.returns-in-Err-clause-stop
returns-in-Err-clause-stop g c = (leads_index leads_none c.in_ok-loaded.ensures.ok).stops _ _ (at_bytes c.in-Err.ensures.stop)

pub returns-clause-stop : goal.returns-clause-stop
returns-clause-stop g c =
    audit_stops g.H.HashKind.hash (text_audit g.H.HashKind.hash c.in_ok-loaded.loaded c.args.doc) c.in-Ok.bytes
    (leads_bytes (leads_index leads_none c.in_ok-loaded.ensures.ok) c.in-Ok.ensures.ok)
    c.audit_to_text-text.result (rw c.as_slice.ensures at c.audit_to_text-text.ensures.stop)

pub returns-clause-ok : goal.returns-clause-ok
returns-clause-ok g c =
    let H = g.H.HashKind.hash in
    let words : AuditFetchWords = record { index = c.args.index.now; doc = c.args.doc; file = c.args.file.now } in
    let archive = c.in_ok-loaded.loaded in
    let bytes = c.in-Ok.bytes in
    audit_end H (text_audit H archive words.doc) bytes (λ files text. IsFetchAudited H files words text)
    (leads_bytes (leads_index leads_none c.in_ok-loaded.ensures.ok) c.in-Ok.ensures.ok)
    vec_items c.audit_to_text-text.result (rw c.as_slice.ensures at c.audit_to_text-text.ensures.ok)
    (λ text is. let found = is.2 in (
      found.proof,
      found.accepted,
      found.none,
      record {
        archive = archive;
        index = still_index c.in_ok-loaded.ensures.ok (same_bytes c.in-Ok.ensures.ok);
        clear = record {
          checked = record { bytes = bytes; file = still_bytes c.in-Ok.ensures.ok; value = found.proof; accepted = found.accepted };
          none = found.none;
        };
        own = found.own;
        printed = is.3 ∙ ap (λ (p : TextProof). printed_text p.text) (one_text bytes is.0 found.proof is.1 found.accepted.says);
      },
    ))
