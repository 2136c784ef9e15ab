use Rattle.ats_growth_check.proofs.Exactness.{accepted_not_refused, one_refusal}
use Rattle.ats_growth_check.proofs.laws.growths_are_refused_once.Goals as goal

pub returns : goal.returns
returns g c =
    let H = g.H.HashKind.hash in record {
      one = one_refusal H;
      apart = accepted_not_refused H;
    }
