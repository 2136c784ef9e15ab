use Rattle.std.proofs.Common.{refl}
use Rattle.std.proofs.lemmas.Result.{IfOk-weaker, IfErr-weaker}
use Rattle.ats_plan.proofs.Public.{leads_none, leads_try, leads_make}
use Rattle.ats_console.proofs.Public.{passed, at_index, leads_index, still_index, try_stops}
use Rattle.ats_makers.proofs.Stored.{stored, not_stored}
use Rattle.ats_makers.proofs.texts.give.Goals as goal

pub returns-in_err-loaded-clause-stop : goal.returns-in_err-loaded-clause-stop
returns-in_err-loaded-clause-stop g c = passed _ _ c.from_residual.ensures.1 (at_index c.in_err-loaded.ensures.stop)

pub returns-in_err-bytes-clause-stop : goal.returns-in_err-bytes-clause-stop
returns-in_err-bytes-clause-stop g c =
    passed _ _ c.from_residual-in_err-bytes.ensures.1 (try_stops (leads_index leads_none c.in_ok-loaded.ensures.ok) c.in_err-bytes.ensures.stop)

pub returns-clause-ok : goal.returns-clause-ok
returns-clause-ok g c =
    let leads = leads_make c.in_ok-bytes.bytes (leads_try (leads_index leads_none c.in_ok-loaded.ensures.ok) c.in_ok-bytes.ensures.inside) c.in_ok-bytes.ensures.file in
    IfOk-weaker c.store_sized.result _ _ (λ text done. stored leads done (λ puts printed. record {
      archive = c.in_ok-loaded.loaded;
      bytes = c.in_ok-bytes.bytes;
      index = still_index c.in_ok-loaded.ensures.ok refl;
      inside = c.in_ok-bytes.ensures.inside;
      given = c.in_ok-bytes.ensures.file;
      stored = puts;
      printed = printed;
    })) c.store_sized.ensures.ok

pub returns-clause-stop : goal.returns-clause-stop
returns-clause-stop g c =
    let leads = leads_make c.in_ok-bytes.bytes (leads_try (leads_index leads_none c.in_ok-loaded.ensures.ok) c.in_ok-bytes.ensures.inside) c.in_ok-bytes.ensures.file in
    IfErr-weaker c.store_sized.result _ _ (λ stop. not_stored leads) c.store_sized.ensures.stop
