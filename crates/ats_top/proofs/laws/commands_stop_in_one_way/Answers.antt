use Rattle.ats_plan.proofs.Public.{one_refusal, passes_not_refused}
use Rattle.ats_top.specs.Commands.{plan_of}
use Rattle.ats_console.specs.declared.stops.Stop.TheVariants.{Shelf}
use Rattle.ats_top.proofs.Sound.{plan_sound}
use Rattle.ats_top.proofs.StopPrinted.{runs_alike}
use Rattle.ats_top.proofs.laws.commands_stop_in_one_way.Goals as goal

pub returns-clause-one : goal.returns-clause-one
returns-clause-one g c files command a b known is also =
    one_refusal Shelf files (plan_of g.H.HashKind.hash command) a b known (plan_sound g.H.HashKind.hash command) is also

pub returns-clause-none : goal.returns-clause-none
returns-clause-none g c files command stop known passes refused =
    passes_not_refused Shelf files (plan_of g.H.HashKind.hash command) stop known (plan_sound g.H.HashKind.hash command) passes refused

pub returns-clause-runs : goal.returns-clause-runs
returns-clause-runs g c said command before now since later a b is calls opens known same ran again =
    runs_alike g.H.HashKind.hash said command before now since later a b is calls opens (plan_sound g.H.HashKind.hash command) known same ran again
