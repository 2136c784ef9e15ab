use Rattle.ats_top.proofs.HonestSwept.{sweep_steps_hold}
use Rattle.ats_top.proofs.laws.sweeps_accept_honest_proofs.Goals as goal

pub returns : goal.returns
returns g c archive = sweep_steps_hold g.H.HashKind.hash g.H.HashKind.sized archive
