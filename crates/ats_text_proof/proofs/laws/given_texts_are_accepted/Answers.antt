use Rattle.std.specs.List.{concat}
use Rattle.ats_text_check.specs.Value.{fields_of}
use Rattle.ats_text_check.proofs.Public.{spells}
use Rattle.ats_text_proof.specs.Given.{given_text}
use Rattle.ats_text_proof.proofs.Given.{given-in_range, given-accepted, given-none, given-own}
use Rattle.ats_text_proof.proofs.Verdicts.{given-right}
use Rattle.ats_text_proof.proofs.laws.given_texts_are_accepted.Goals as goal

pub returns : goal.returns
returns g c =
    let H = g.H.HashKind.hash in
    let sized = g.H.HashKind.sized in
    record {
      spelled = λ archive doc are less. (concat (fields_of (given_text H archive doc)), spells (given_text H archive doc) (given-in_range H sized archive doc are less));
      accepted = given-accepted H sized;
      none = given-none H sized;
      own = given-own H sized;
      right = given-right H sized;
    }
