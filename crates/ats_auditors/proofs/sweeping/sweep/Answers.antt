use Rattle.std.proofs.lemmas.Result.{IfErr-weaker, IfOk-weaker}
use Rattle.ats_plan.proofs.Public.{leads_none}
use Rattle.ats_console.specs.Words.{SweepWords}
use Rattle.ats_console.proofs.Public.{passed, leads_bytes, leads_index, same_bytes, at_bytes, at_index, still_bytes, still_index}
use Rattle.ats_auditors.proofs.sweeping.sweep.Goals as goal

pub returns-in_err-loaded-clause-stop : goal.returns-in_err-loaded-clause-stop
returns-in_err-loaded-clause-stop g c = passed _ c.from_residual.result c.from_residual.ensures.1 (at_index c.in_err-loaded.ensures.stop)

pub returns-in-Err-clause-stop : goal.returns-in-Err-clause-stop
returns-in-Err-clause-stop g c = (leads_index leads_none c.in_ok-loaded.ensures.ok).stops _ _ (at_bytes c.in-Err.ensures.stop)

pub returns-clause-ok : goal.returns-clause-ok
returns-clause-ok g c =
    let words : SweepWords = record { index = c.args.index.now; list = c.args.list.now } in
    let index = still_index c.in_ok-loaded.ensures.ok (same_bytes c.in-Ok.ensures.ok) in
    let done = rw c.as_slice.ensures at c.sweep_to_lines-text.ensures.ok in
    IfOk-weaker c.sweep_to_lines-text.result _ _
    (λ text. (leads_bytes (leads_index leads_none c.in_ok-loaded.ensures.ok) c.in-Ok.ensures.ok).does _ text.items)
    (done words index (still_bytes c.in-Ok.ensures.ok))

pub returns-clause-stop : goal.returns-clause-stop
returns-clause-stop g c =
    let words : SweepWords = record { index = c.args.index.now; list = c.args.list.now } in
    let stops = rw c.as_slice.ensures at c.sweep_to_lines-text.ensures.stop in
    IfErr-weaker c.sweep_to_lines-text.result _ _
    (λ stop. (leads_bytes (leads_index leads_none c.in_ok-loaded.ensures.ok) c.in-Ok.ensures.ok).stops _ stop) (stops words)
