use Rattle.ats_all_check.proofs.Refusals.{one_of_bytes, not_refused}
use Rattle.ats_all_check.proofs.laws.bytes_are_refused_once.Goals as goal

pub returns : goal.returns
returns g c =
    let H = g.H.HashKind.hash in record {
      one = one_of_bytes H;
      apart = not_refused H;
    }
