use Rattle.std.proofs.lemmas.Result.{IfOk-weaker, IfErr-weaker}
use Rattle.ats_plan.proofs.Public.{leads_none, leads_make}
use Rattle.ats_console.proofs.Public.{passed, at_collection, leads_collection, still_collection}
use Rattle.ats_makers.proofs.Stored.{stored, not_stored, published_as}
use Rattle.ats_makers.proofs.indexing.build.Goals as goal

pub returns-in_err-texts-clause-stop : goal.returns-in_err-texts-clause-stop
returns-in_err-texts-clause-stop g c = passed _ _ c.from_residual.ensures.1 (at_collection c.in_err-texts.ensures.stop)

pub returns-clause-ok : goal.returns-clause-ok
returns-clause-ok g c =
    let spelling = rw c.in_ok-built.ensures at c.in_ok-bytes.ensures.bytes in
    let leads = leads_make c.in_ok-bytes.bytes (leads_collection leads_none c.in_ok-texts.ensures.ok) spelling in
    let line = rw c.in_ok-built.ensures at c.in_ok-bytes.ensures.line in
    IfOk-weaker c.store_made.result _ _ (λ text done. stored leads done (λ puts printed. record {
      texts = c.in_ok-texts.texts;
      bytes = c.in_ok-bytes.bytes;
      collection = still_collection c.in_ok-texts.ensures.ok;
      spelling = spelling;
      stored = puts;
      published = published_as line printed;
    })) c.store_made.ensures.ok

pub returns-clause-stop : goal.returns-clause-stop
returns-clause-stop g c =
    let leads = leads_make c.in_ok-bytes.bytes (leads_collection leads_none c.in_ok-texts.ensures.ok) (rw c.in_ok-built.ensures at c.in_ok-bytes.ensures.bytes) in
    IfErr-weaker c.store_made.result _ _ (λ stop. not_stored leads) c.store_made.ensures.stop
