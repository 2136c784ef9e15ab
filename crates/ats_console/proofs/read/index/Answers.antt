use Rattle.std.proofs.lemmas.Result.{err_from_is_err_and}
use Rattle.ats_plan.proofs.Public.{leads_none}
use Rattle.ats_console.proofs.Fronts.{passed_on, get_faults, leads_bytes}
use Rattle.ats_console.proofs.read.index.Goals as goal

pub returns-in_err-load-clause-stop : goal.returns-in_err-load-clause-stop
returns-in_err-load-clause-stop g c =
    let told = err_from_is_err_and c.from_residual-in_err-load.result c.from_residual-in_err-load.ensures.1 in
    passed_on _
    _ told.0 _ told.1 told.2
    (get_faults (leads_bytes leads_none c.in_ok-bytes.ensures.ok) c.in_err-load.field-0.0 (rw c.as_slice.ensures at c.in_err-load.ensures.fault))
