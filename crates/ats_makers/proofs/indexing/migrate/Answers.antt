use Rattle.std.proofs.Common.{refl}
use Rattle.std.proofs.lemmas.Result.{IfOk-weaker, IfErr-weaker}
use Rattle.ats_plan.proofs.Public.{leads_none, leads_make}
use Rattle.ats_console.proofs.Public.{passed, at_index, leads_index, still_index}
use Rattle.ats_makers.proofs.Stored.{stored, not_stored, published_as}
use Rattle.ats_makers.proofs.indexing.migrate.Goals as goal

pub returns-in_err-loaded-clause-stop : goal.returns-in_err-loaded-clause-stop
returns-in_err-loaded-clause-stop g c = passed _ _ c.from_residual.ensures.1 (at_index c.in_err-loaded.ensures.stop)

pub returns-clause-ok : goal.returns-clause-ok
returns-clause-ok g c =
    let spelling = rw c.in_ok-made.ensures.ok at c.in_ok-bytes.ensures.bytes in
    let leads = leads_make c.in_ok-bytes.bytes (leads_index leads_none c.in_ok-loaded.ensures.ok) spelling in
    let line = rw c.in_ok-made.ensures.ok at c.in_ok-bytes.ensures.line in
    IfOk-weaker c.store_made.result _ _ (λ text done. stored leads done (λ puts printed. record {
      archive = c.in_ok-loaded.loaded;
      bytes = c.in_ok-bytes.bytes;
      index = still_index c.in_ok-loaded.ensures.ok refl;
      spelling = spelling;
      stored = puts;
      published = published_as line printed;
    })) c.store_made.ensures.ok

pub returns-clause-stop : goal.returns-clause-stop
returns-clause-stop g c =
    let leads = leads_make c.in_ok-bytes.bytes (leads_index leads_none c.in_ok-loaded.ensures.ok) (rw c.in_ok-made.ensures.ok at c.in_ok-bytes.ensures.bytes) in
    IfErr-weaker c.store_made.result _ _ (λ stop. not_stored leads) c.store_made.ensures.stop
