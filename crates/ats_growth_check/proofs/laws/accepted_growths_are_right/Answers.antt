use Rattle.ats_growth_check.proofs.InRange.{growth_range}
use Rattle.ats_growth_check.proofs.Soundness.{grown_or_collides}
use Rattle.ats_growth_check.proofs.laws.accepted_growths_are_right.Goals as goal

pub returns : goal.returns
returns g c old new bytes growth accepted =
    grown_or_collides g.H.HashKind.hash g.H.HashKind.sized old new growth (growth_range bytes growth accepted.says) accepted.accepts
