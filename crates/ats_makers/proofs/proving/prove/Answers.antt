use Rattle.std.proofs.Common.{refl}
use Rattle.std.proofs.lemmas.Result.{IfOk-weaker, IfErr-weaker}
use Rattle.ats_plan.proofs.Public.{leads_none, leads_try, leads_make}
use Rattle.ats_console.proofs.Public.{passed, leads_ranking, at_index, leads_index, still_index, try_stops, made_short, rows_of_range, asks_of}
use Rattle.ats_makers.proofs.Stored.{stored, not_stored}
use Rattle.ats_makers.proofs.proving.prove.Goals as goal

pub returns-in_err-loaded-clause-stop : goal.returns-in_err-loaded-clause-stop
returns-in_err-loaded-clause-stop g c =
    passed _ _ c.from_residual-in_err-loaded.ensures.1
    ((leads_ranking leads_none (rows_of_range c.args.r c.in_ok-rows.ensures.within) c.in_ok-asked.ensures.ok).stops _ _ (at_index c.in_err-loaded.ensures.stop))

pub returns-in_err-bytes-clause-stop : goal.returns-in_err-bytes-clause-stop
returns-in_err-bytes-clause-stop g c =
    passed _ _ c.from_residual-in_err-bytes.ensures.1
    (try_stops (leads_index (leads_ranking leads_none (rows_of_range c.args.r c.in_ok-rows.ensures.within) c.in_ok-asked.ensures.ok) c.in_ok-loaded.ensures.ok) (rw c.in_ok-rows.ensures.ok at c.in_err-bytes.ensures.stop))

pub returns-clause-ok : goal.returns-clause-ok
returns-clause-ok g c =
    let asks = asks_of c.args.r c.args.query.now c.in_ok-asked.asked c.in_ok-rows.ensures.within c.in_ok-asked.ensures.ok in
    let made = rw c.in_ok-rows.ensures.ok at c.in_ok-bytes.ensures.proof in
    let leads = leads_make c.in_ok-bytes.bytes (leads_try (leads_index (leads_ranking leads_none asks.rows c.in_ok-asked.ensures.ok) c.in_ok-loaded.ensures.ok) (made_short _ _ _ _ _ c.in_ok-bytes.bytes made)) made in
    IfOk-weaker c.store_sized.result _ _ (λ text done. stored leads done (λ puts printed. record {
      asks = asks;
      bytes = c.in_ok-bytes.bytes;
      proof = record {
        archive = c.in_ok-loaded.loaded;
        query = c.in_ok-asked.asked;
        index = still_index c.in_ok-loaded.ensures.ok refl;
        asked = c.in_ok-asked.ensures.ok;
        proved = made.proved;
        short = made.short;
      };
      stored = puts;
      printed = printed;
    })) c.store_sized.ensures.ok

pub returns-clause-stop : goal.returns-clause-stop
returns-clause-stop g c =
    let made = rw c.in_ok-rows.ensures.ok at c.in_ok-bytes.ensures.proof in
    let leads = leads_make c.in_ok-bytes.bytes (leads_try (leads_index (leads_ranking leads_none (rows_of_range c.args.r c.in_ok-rows.ensures.within) c.in_ok-asked.ensures.ok) c.in_ok-loaded.ensures.ok) (made_short _ _ _ _ _ c.in_ok-bytes.bytes made)) made in
    IfErr-weaker c.store_sized.result _ _ (λ stop. not_stored leads) c.store_sized.ensures.stop
