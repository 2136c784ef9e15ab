use Rattle.std.proofs.Common.{[], ◌∷◌, ap, true, false}
use Rattle.ats_growth_check.specs.Pair.{Roots}
use Rattle.ats_growth_check.proofs.laws.digests_give_roots.Goals as goal
use Rattle.ats_growth_check.proofs.LawLemmas.{roots_all, roots_left, roots_right}

pub returns : goal.returns
returns g c =
    let H = g.H.HashKind.hash in record {
      all_known = λ root m. (ap (λ (r : Roots). r.old) (roots_all H root m true []), ap (λ (r : Roots). r.new) (roots_all H root m true []));
      all = λ root x m. (ap (λ (r : Roots). r.old) (roots_all H root m false (x ∷ [])), ap (λ (r : Roots). r.new) (roots_all H root m false (x ∷ [])));
      left = λ root y others m n h known long few inside. (
        ap (λ (r : Roots). r.old) (roots_left H root y others m n h known long few inside),
        ap (λ (r : Roots). r.new) (roots_left H root y others m n h known long few inside),
      );
      right = λ root y others m n h known few past more. (
        ap (λ (r : Roots). r.old) (roots_right H root y others m n h known few past more),
        ap (λ (r : Roots). r.new) (roots_right H root y others m n h known few past more),
      );
    }
