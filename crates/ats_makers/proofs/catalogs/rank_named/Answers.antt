use Rattle.std.proofs.Common.{refl}
use Rattle.ats_plan.proofs.Public.{leads_none}
use Rattle.ats_console.proofs.Public.{passed, leads_index, memory_stops}
use Rattle.ats_makers.proofs.catalogs.rank_named.Goals as goal

pub returns-in_err-index-clause-stop : goal.returns-in_err-index-clause-stop
returns-in_err-index-clause-stop g c = passed _ c.from_residual.result c.from_residual.ensures.1 c.in_err-index.ensures.stop

pub returns-in-Ok-clause-ok : goal.returns-in-Ok-clause-ok
returns-in-Ok-clause-ok g c = (c.in_ok-index.index, c.in-Ok.ensures.taken, c.in_ok-index.ensures.ok)

pub returns-in-Err-clause-stop : goal.returns-in-Err-clause-stop
returns-in-Err-clause-stop g c = memory_stops (leads_index leads_none c.in_ok-index.ensures.ok) refl
