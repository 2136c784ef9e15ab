use Rattle.std.proofs.lemmas.Result.{IfErr-weaker, IfOk-weaker}
use Rattle.ats_plan.proofs.Public.{leads_none}
use Rattle.ats_console.specs.Names.{HasNames}
use Rattle.ats_console.specs.Words.{ProveCatalogWords}
use Rattle.ats_console.proofs.Public.{passed, rows_stops, query_stops, leads_ranking, at_bytes, still_bytes, get_stops, rows_of_range, asks_of}
use Rattle.ats_makers.proofs.CatalogSteps.{leads_listed, leads_names}
use Rattle.ats_makers.proofs.catalogs.prove_catalog.Goals as goal

pub returns-in_err-top-clause-stop : goal.returns-in_err-top-clause-stop
returns-in_err-top-clause-stop g c =
    passed _ c.from_residual.result c.from_residual.ensures.1 (rows_stops leads_none c.in_err-top.field-0.0.r c.in_err-top.ensures.out)

pub returns-in_err-asked-clause-stop : goal.returns-in_err-asked-clause-stop
returns-in_err-asked-clause-stop g c =
    passed _ c.from_residual-in_err-asked.result c.from_residual-in_err-asked.ensures.1
    (query_stops leads_none (rows_of_range c.args.r c.in_ok-top.ensures.within) c.in_err-asked.field-0.0 c.in_err-asked.ensures.fault)

pub returns-in_err-listed-clause-stop : goal.returns-in_err-listed-clause-stop
returns-in_err-listed-clause-stop g c =
    passed _ c.from_residual-in_err-listed.result c.from_residual-in_err-listed.ensures.1
    ((leads_ranking leads_none (rows_of_range c.args.r c.in_ok-top.ensures.within) c.in_ok-asked.ensures.ok).stops _ _ (at_bytes c.in_err-listed.ensures.stop))

pub returns-in_err-names-clause-stop : goal.returns-in_err-names-clause-stop
returns-in_err-names-clause-stop g c =
    let words : ProveCatalogWords = record { list = c.args.list.now; algorithm = c.args.algorithm; r = c.args.r; query = c.args.query.now; file = c.args.file.now } in
    passed _ c.from_residual-in_err-names.result c.from_residual-in_err-names.ensures.1
    (get_stops (leads_listed g.H.HashKind.hash words c.in_ok-asked.asked (rows_of_range c.args.r c.in_ok-top.ensures.within) c.in_ok-asked.ensures.ok
    (g.S.Shelf.told c.args.shelf.now) (g.S.Shelf.told c.file.new.shelf) c.in_ok-listed.listed c.in_ok-listed.ensures.ok)
    (rw c.as_slice.ensures at c.in_err-names.ensures.stop))

pub returns-clause-stop : goal.returns-clause-stop
returns-clause-stop g c =
    let words : ProveCatalogWords = record { list = c.args.list.now; algorithm = c.args.algorithm; r = c.args.r; query = c.args.query.now; file = c.args.file.now } in
    let leads = leads_names g.H.HashKind.hash words c.in_ok-asked.asked (rows_of_range c.args.r c.in_ok-top.ensures.within) c.in_ok-asked.ensures.ok
    (g.S.Shelf.told c.args.shelf.now) (g.S.Shelf.told c.file.new.shelf) c.in_ok-listed.listed c.in_ok-listed.ensures.ok
    c.in_ok-names.names.items (rw c.as_slice.ensures at c.in_ok-names.ensures.ok) in
    IfErr-weaker c.prove_names.result _ _ (λ stop. leads.stops _ stop)
    (rw (c.as_slice-2.ensures.value, c.in_ok-top.ensures.ok) at c.prove_names.ensures.stop words.list words.query)

pub returns-clause-ok : goal.returns-clause-ok
returns-clause-ok g c =
    let words : ProveCatalogWords = record { list = c.args.list.now; algorithm = c.args.algorithm; r = c.args.r; query = c.args.query.now; file = c.args.file.now } in
    let list = rw c.as_slice.ensures at c.in_ok-names.ensures.ok in
    let asks = asks_of words.r words.query c.in_ok-asked.asked c.in_ok-top.ensures.within c.in_ok-asked.ensures.ok in
    let leads = leads_names g.H.HashKind.hash words c.in_ok-asked.asked asks.rows c.in_ok-asked.ensures.ok
    (g.S.Shelf.told c.args.shelf.now) (g.S.Shelf.told c.file.new.shelf) c.in_ok-listed.listed c.in_ok-listed.ensures.ok c.in_ok-names.names.items list in
    let listed : HasNames (g.S.Shelf.told c.file.new.shelf).files words.list c.in_ok-names.names.items = record {
      bytes = c.in_ok-listed.listed;
      file = still_bytes c.in_ok-listed.ensures.ok;
      list = list;
    } in
    IfOk-weaker c.prove_names.result _ _ (λ text. leads.does _ text.items)
    ((rw (c.as_slice-2.ensures.value, c.in_ok-top.ensures.ok) at c.prove_names.ensures.ok) words.list words.query asks c.in_ok-asked.ensures.ok listed)
