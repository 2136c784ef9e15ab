use Rattle.std.proofs.Common.{reverse, ap, true, false}
use Rattle.ats_growth_proof.proofs.LawLemmas.{shown_all, shown_left, shown_right}
use Rattle.ats_growth_proof.proofs.laws.honest_digests_are_subproofs.Goals as goal

pub returns : goal.returns
returns g c =
    let H = g.H.HashKind.hash in record {
      all_known = λ texts. ap reverse (shown_all H texts true);
      all = λ texts. ap reverse (shown_all H texts false);
      left = shown_left H;
      right = shown_right H;
    }
