use Rattle.std.proofs.Common.{refl}
use Rattle.std.proofs.lemmas.Result.{IfOk-weaker, IfErr-weaker}
use Rattle.ats_plan.proofs.Public.{leads_none, leads_try, leads_make}
use Rattle.ats_console.proofs.Public.{passed, text_stops, leads_query, at_index, leads_index, still_index, try_stops}
use Rattle.ats_makers.proofs.OneBoth.{both_short}
use Rattle.ats_makers.proofs.Stored.{stored, not_stored}
use Rattle.ats_makers.proofs.documents.prove_both.Goals as goal

pub returns-in_err-asked-clause-stop : goal.returns-in_err-asked-clause-stop
returns-in_err-asked-clause-stop g c =
    passed _ _ c.from_residual.ensures.1 (text_stops leads_none c.in_err-asked.field-0.0 c.in_err-asked.ensures.fault)

pub returns-in_err-loaded-clause-stop : goal.returns-in_err-loaded-clause-stop
returns-in_err-loaded-clause-stop g c =
    passed _ _ c.from_residual-in_err-loaded.ensures.1 ((leads_query leads_none c.in_ok-asked.ensures.ok).stops _ _ (at_index c.in_err-loaded.ensures.stop))

pub returns-in_err-bytes-clause-stop : goal.returns-in_err-bytes-clause-stop
returns-in_err-bytes-clause-stop g c =
    passed _ _ c.from_residual-in_err-bytes.ensures.1
    (try_stops (leads_index (leads_query leads_none c.in_ok-asked.ensures.ok) c.in_ok-loaded.ensures.ok) c.in_err-bytes.ensures.stop)

pub returns-clause-ok : goal.returns-clause-ok
returns-clause-ok g c =
    let made = c.in_ok-bytes.ensures.proof in
    let short = both_short _ _ _ c.in_ok-bytes.bytes made.proved made.short in
    let leads = leads_make c.in_ok-bytes.bytes (leads_try (leads_index (leads_query leads_none c.in_ok-asked.ensures.ok) c.in_ok-loaded.ensures.ok) short) made in
    IfOk-weaker c.store_sized.result _ _ (λ text done. stored leads done (λ puts printed. record {
      archive = c.in_ok-loaded.loaded;
      query = c.in_ok-asked.asked;
      bytes = c.in_ok-bytes.bytes;
      asked = c.in_ok-asked.ensures.ok;
      index = still_index c.in_ok-loaded.ensures.ok refl;
      made = made;
      stored = puts;
      printed = printed;
    })) c.store_sized.ensures.ok

pub returns-clause-stop : goal.returns-clause-stop
returns-clause-stop g c =
    let made = c.in_ok-bytes.ensures.proof in
    let short = both_short _ _ _ c.in_ok-bytes.bytes made.proved made.short in
    let leads = leads_make c.in_ok-bytes.bytes (leads_try (leads_index (leads_query leads_none c.in_ok-asked.ensures.ok) c.in_ok-loaded.ensures.ok) short) made in
    IfErr-weaker c.store_sized.result _ _ (λ stop. not_stored leads) c.store_sized.ensures.stop
