use Rattle.std.proofs.lemmas.Result.{err_from_is_err_and}
use Rattle.ats_plan.proofs.Public.{leads_none, leads_get}
use Rattle.ats_console.proofs.Fronts.{passed_on, get_faults, try_faults, leads_bytes}
use Rattle.ats_console.proofs.read.collection.Goals as goal

pub returns-in_err-texts-clause-stop : goal.returns-in_err-texts-clause-stop
returns-in_err-texts-clause-stop g c =
    let told = err_from_is_err_and c.from_residual-in_err-texts.result c.from_residual-in_err-texts.ensures.1 in
    passed_on _
    _ told.0 _ told.1 told.2
    (get_faults (leads_bytes leads_none c.in_ok-bytes.ensures.ok) c.in_err-texts.field-0.0 (rw c.as_slice.ensures at c.in_err-texts.ensures.fault))

pub returns-in_err-new-clause-stop : goal.returns-in_err-new-clause-stop
returns-in_err-new-clause-stop g c =
    let told = err_from_is_err_and c.from_residual-in_err-new.result c.from_residual-in_err-new.ensures.1 in
    passed_on _
    _ told.0 _ told.1 told.2
    (try_faults (leads_get c.in_ok-texts.texts (leads_bytes leads_none c.in_ok-bytes.ensures.ok) (rw c.as_slice.ensures at c.in_ok-texts.ensures.ok))
    c.in_err-new.field-0.0 c.in_err-new.ensures.fault)
