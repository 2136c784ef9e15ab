use Rattle.std.proofs.Common.{vec_items}
use Rattle.ats_text_check.proofs.Public.{in_range, own_or_collides}
use Rattle.ats_text_proof.proofs.Public.{told}
use Rattle.ats_plan.proofs.Public.{leads_none}
use Rattle.ats_console.specs.Words.{FetchWords}
use Rattle.ats_console.specs.Kinds.{text_kind}
use Rattle.ats_console.proofs.Public.{passed, leads_bytes, at_bytes, still_bytes, check_stops, check_end}
use Rattle.ats_checkers.specs.Commands.{IsFetched}
use Rattle.ats_checkers.proofs.texts.fetch.Goals as goal

pub returns-in_err-bytes-clause-stop : goal.returns-in_err-bytes-clause-stop
returns-in_err-bytes-clause-stop g c = passed _ c.from_residual.result c.from_residual.ensures.1 (at_bytes c.in_err-bytes.ensures.stop)

pub returns-clause-stop : goal.returns-clause-stop
returns-clause-stop g c =
    check_stops (leads_bytes leads_none c.in_ok-bytes.ensures.ok) c.fetch_to_text.result (rw c.as_slice.ensures at c.fetch_to_text.ensures.stop)

pub returns-clause-ok : goal.returns-clause-ok
returns-clause-ok g c =
    let H = g.H.HashKind.hash in
    let words : FetchWords = record { root = c.args.root.now; doc = c.args.doc; file = c.args.file.now } in
    let bytes = c.in_ok-bytes.bytes in
    check_end (text_kind H words.root words.doc) bytes (λ files text. IsFetched H files words text) (leads_bytes leads_none c.in_ok-bytes.ensures.ok)
    vec_items c.fetch_to_text.result (rw c.as_slice.ensures at c.fetch_to_text.ensures.ok) (λ text is. (
      is.0,
      is.1,
      record {
        checked = record { bytes = bytes; file = still_bytes c.in_ok-bytes.ensures.ok; value = is.0; accepted = is.1 };
        headline = own_or_collides H g.H.HashKind.sized words.root words.doc is.0 (in_range bytes is.0 is.1.says) is.1.accepts;
        audited = told H g.H.HashKind.sized words.root words.doc bytes is.0 is.1.says is.1.accepts;
        printed = is.2;
      },
    ))
