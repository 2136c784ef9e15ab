use Rattle.std.proofs.Common.{vec_items}
use Rattle.ats_plan.proofs.Public.{leads_none}
use Rattle.ats_console.specs.Words.{CatalogWords}
use Rattle.ats_console.specs.Kinds.{catalog_kind}
use Rattle.ats_console.proofs.Public.{passed, rows_stops, query_stops, leads_ranking, leads_bytes, at_bytes, still_bytes, rows_of_range, asks_of, check_stops, check_end}
use Rattle.ats_catalog_audit.proofs.Public.{told}
use Rattle.ats_checkers.specs.Commands.{IsCatalogChecked}
use Rattle.ats_checkers.proofs.catalogs.catalog.Goals as goal

pub returns-in_err-rows-clause-stop : goal.returns-in_err-rows-clause-stop
returns-in_err-rows-clause-stop g c =
    passed _ c.from_residual.result c.from_residual.ensures.1 (rows_stops leads_none c.in_err-rows.field-0.0.r c.in_err-rows.ensures.out)

pub returns-in_err-asked-clause-stop : goal.returns-in_err-asked-clause-stop
returns-in_err-asked-clause-stop g c =
    passed _ c.from_residual-in_err-asked.result c.from_residual-in_err-asked.ensures.1
    (query_stops leads_none (rows_of_range c.args.r c.in_ok-rows.ensures.within) c.in_err-asked.field-0.0 c.in_err-asked.ensures.fault)

pub returns-in_err-bytes-clause-stop : goal.returns-in_err-bytes-clause-stop
returns-in_err-bytes-clause-stop g c =
    passed _ c.from_residual-in_err-bytes.result c.from_residual-in_err-bytes.ensures.1
    ((leads_ranking leads_none (rows_of_range c.args.r c.in_ok-rows.ensures.within) c.in_ok-asked.ensures.ok).stops _ _ (at_bytes c.in_err-bytes.ensures.stop))

pub returns-clause-stop : goal.returns-clause-stop
returns-clause-stop g c =
    check_stops (leads_bytes (leads_ranking leads_none (rows_of_range c.args.r c.in_ok-rows.ensures.within) c.in_ok-asked.ensures.ok) c.in_ok-bytes.ensures.ok)
    c.catalog_to_lines.result (rw (c.as_slice.ensures, c.in_ok-rows.ensures.ok) at c.catalog_to_lines.ensures.stop)

pub returns-clause-ok : goal.returns-clause-ok
returns-clause-ok g c =
    let H = g.H.HashKind.hash in
    let words : CatalogWords = record { root = c.args.root.now; r = c.args.r; query = c.args.query.now; file = c.args.file.now } in
    let query = c.in_ok-asked.asked in
    let bytes = c.in_ok-bytes.bytes in
    let asks = asks_of words.r words.query query c.in_ok-rows.ensures.within c.in_ok-asked.ensures.ok in
    check_end (catalog_kind H words.root query words.r) bytes (λ files text. IsCatalogChecked H files words text)
    (leads_bytes (leads_ranking leads_none asks.rows c.in_ok-asked.ensures.ok) c.in_ok-bytes.ensures.ok)
    vec_items c.catalog_to_lines.result (rw (c.as_slice.ensures, c.in_ok-rows.ensures.ok) at c.catalog_to_lines.ensures.ok)
    (λ text is. (
      is.1.shards,
      is.1.accepted,
      record {
        asks = asks;
        query = query;
        asked = c.in_ok-asked.ensures.ok;
        checked = record { bytes = bytes; file = still_bytes c.in_ok-bytes.ensures.ok; value = is.1.shards; accepted = is.1.accepted };
        headline = is.1.headline;
        audited = told H g.H.HashKind.sized words.root query words.r bytes is.1.shards is.1.headline is.1.accepted;
        rows = is.0;
        answer = is.1.answer;
        printed = is.2;
      },
    ))
