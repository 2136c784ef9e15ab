use Rattle.std.proofs.Common.{◌∙◌, refl, arith}
use Rattle.ats_catalog_bytes.proofs.laws.catalogs_grow_on.Goals as goal

pub returns : goal.returns
returns c = record {
  same = λ roots. record { more = omega arith; kept = λ i low. refl };
  on = λ first second third here there. record {
    more = omega (arith, here.more, there.more);
    kept = λ i low. here.kept i low ∙ there.kept i (omega (arith, low, here.more));
  };
}
