use Rattle.std.proofs.lemmas.Result.{IfErr-weaker}
use Rattle.ats_plan.proofs.Public.{leads_none}
use Rattle.ats_console.proofs.Fronts.{get_stops, leads_bytes}
use Rattle.ats_console.proofs.read.roots.Goals as goal

pub returns-clause-stop : goal.returns-clause-stop
returns-clause-stop g c =
    IfErr-weaker c.read_roots.result _ _ (λ stop. get_stops (leads_bytes leads_none c.in_ok-bytes.ensures.ok))
    (rw c.as_slice.ensures at c.read_roots.ensures.stop)
