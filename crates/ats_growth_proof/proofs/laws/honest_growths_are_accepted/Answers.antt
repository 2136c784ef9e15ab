use Rattle.std.specs.List.{concat}
use Rattle.ats_growth_check.specs.Value.{fields_of}
use Rattle.ats_growth_check.proofs.Public.{spells}
use Rattle.ats_growth_proof.specs.Honest.{honest}
use Rattle.ats_growth_proof.proofs.Completeness.{honest_accepted}
use Rattle.ats_growth_proof.proofs.HonestStrings.{honest-none}
use Rattle.ats_growth_proof.proofs.Made.{honest_in_range}
use Rattle.ats_growth_proof.proofs.Prefixes.{not_prefix}
use Rattle.ats_growth_proof.proofs.Verdicts.{honest-right}
use Rattle.ats_growth_proof.proofs.laws.honest_growths_are_accepted.Goals as goal

pub returns : goal.returns
returns g c =
    let H = g.H.HashKind.hash in
    let sized = g.H.HashKind.sized in
    record {
      spelled = λ older newer are also is. (concat (fields_of (honest H older newer)), spells (honest H older newer) (honest_in_range H sized older newer are also is));
      accepted = λ older newer are is. honest_accepted H older newer is are.within.some;
      none = λ older newer are is. honest-none H older newer is are.within.some;
      right = honest-right H;
      differs = not_prefix;
    }
