use Rattle.ats_top.proofs.Sound.{plan_sound}
use Rattle.ats_top.proofs.StopPrinted.{stop_printed}
use Rattle.ats_top.proofs.laws.stops_are_printed.Goals as goal

pub returns : goal.returns
returns g c said command stop before now status is known refuses ran =
    stop_printed g.H.HashKind.hash said before now command stop is (plan_sound g.H.HashKind.hash command) known refuses status ran
