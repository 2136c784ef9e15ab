use Rattle.std.proofs.Common.{vec_items}
use Rattle.ats_all_proof.proofs.Public.{told}
use Rattle.ats_plan.proofs.Public.{leads_none}
use Rattle.ats_console.specs.Words.{BothWords}
use Rattle.ats_console.specs.Kinds.{both_kind}
use Rattle.ats_console.proofs.Public.{passed, text_stops, leads_query, leads_bytes, at_bytes, still_bytes, check_stops, check_end}
use Rattle.ats_checkers.specs.Commands.{IsBothChecked}
use Rattle.ats_checkers.proofs.documents.both.Goals as goal

pub returns-in_err-asked-clause-stop : goal.returns-in_err-asked-clause-stop
returns-in_err-asked-clause-stop g c =
    passed _ c.from_residual.result c.from_residual.ensures.1 (text_stops leads_none c.in_err-asked.field-0.0 c.in_err-asked.ensures.fault)

pub returns-in_err-bytes-clause-stop : goal.returns-in_err-bytes-clause-stop
returns-in_err-bytes-clause-stop g c =
    passed _ c.from_residual-in_err-bytes.result c.from_residual-in_err-bytes.ensures.1
    ((leads_query leads_none c.in_ok-asked.ensures.ok).stops _ _ (at_bytes c.in_err-bytes.ensures.stop))

pub returns-clause-stop : goal.returns-clause-stop
returns-clause-stop g c =
    check_stops (leads_bytes (leads_query leads_none c.in_ok-asked.ensures.ok) c.in_ok-bytes.ensures.ok)
    c.both_to_lines.result (rw c.as_slice.ensures at c.both_to_lines.ensures.stop)

pub returns-clause-ok : goal.returns-clause-ok
returns-clause-ok g c =
    let H = g.H.HashKind.hash in
    let words : BothWords = record { root = c.args.root.now; query = c.args.query.now; proof = c.args.proof.now } in
    let query = c.in_ok-asked.asked in
    let bytes = c.in_ok-bytes.bytes in
    check_end (both_kind H words.root query) bytes (λ files text. IsBothChecked H files words text)
    (leads_bytes (leads_query leads_none c.in_ok-asked.ensures.ok) c.in_ok-bytes.ensures.ok)
    vec_items c.both_to_lines.result (rw c.as_slice.ensures at c.both_to_lines.ensures.ok) (λ text is. (
      is.0,
      is.1,
      record {
        query = query;
        asked = c.in_ok-asked.ensures.ok;
        checked = record { bytes = bytes; file = still_bytes c.in_ok-bytes.ensures.ok; value = is.0; accepted = is.1 };
        headline = is.2;
        audited = told H g.H.HashKind.sized words.root query bytes is.0 c.both_to_lines.ensures.asked is.1;
        printed = is.3;
      },
    ))
