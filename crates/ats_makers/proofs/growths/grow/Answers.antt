use Rattle.std.proofs.Common.{refl}
use Rattle.std.proofs.lemmas.Result.{IfOk-weaker, IfErr-weaker}
use Rattle.ats_plan.proofs.Public.{leads_none, leads_try, leads_make}
use Rattle.ats_console.proofs.Public.{passed, at_index, leads_index, still_index, same_index, try_stops}
use Rattle.ats_makers.proofs.Stored.{stored, not_stored}
use Rattle.ats_makers.proofs.growths.grow.Goals as goal

pub returns-in_err-older-clause-stop : goal.returns-in_err-older-clause-stop
returns-in_err-older-clause-stop g c = passed _ _ c.from_residual.ensures.1 (at_index c.in_err-older.ensures.stop)

pub returns-in-Err-clause-stop : goal.returns-in-Err-clause-stop
returns-in-Err-clause-stop g c = (leads_index leads_none c.in_ok-older.ensures.ok).stops _ _ (at_index c.in-Err.ensures.stop)

pub returns-in_err-bytes-clause-stop : goal.returns-in_err-bytes-clause-stop
returns-in_err-bytes-clause-stop g c =
    passed _ _ c.from_residual-in_err-bytes.ensures.1
    (try_stops (leads_index (leads_index leads_none c.in_ok-older.ensures.ok) c.in-Ok.ensures.ok) c.in_err-bytes.ensures.stop)

pub returns-clause-ok : goal.returns-clause-ok
returns-clause-ok g c =
    let leads = leads_make c.in_ok-bytes.bytes (leads_try (leads_index (leads_index leads_none c.in_ok-older.ensures.ok) c.in-Ok.ensures.ok) c.in_ok-bytes.ensures.prefix) c.in_ok-bytes.ensures.file in
    let later = same_index c.in-Ok.ensures.ok in
    IfOk-weaker c.store_sized.result _ _ (λ text done. stored leads done (λ puts printed. record {
      older = c.in_ok-older.older;
      newer = c.in-Ok.newer;
      bytes = c.in_ok-bytes.bytes;
      old = still_index c.in_ok-older.ensures.ok later;
      new = still_index c.in-Ok.ensures.ok refl;
      prefix = c.in_ok-bytes.ensures.prefix;
      shown = c.in_ok-bytes.ensures.file;
      stored = puts;
      printed = printed;
    })) c.store_sized.ensures.ok

pub returns-clause-stop : goal.returns-clause-stop
returns-clause-stop g c =
    let leads = leads_make c.in_ok-bytes.bytes (leads_try (leads_index (leads_index leads_none c.in_ok-older.ensures.ok) c.in-Ok.ensures.ok) c.in_ok-bytes.ensures.prefix) c.in_ok-bytes.ensures.file in
    IfErr-weaker c.store_sized.result _ _ (λ stop. not_stored leads) c.store_sized.ensures.stop
