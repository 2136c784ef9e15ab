use Rattle.ats_catalog_honest.proofs.Exists.{honest_exist}
use Rattle.ats_catalog_honest.proofs.laws.honest_catalogs_exist.Goals as goal

pub returns : goal.returns
returns g c = λ catalog query r by is asked. honest_exist g.H.HashKind.hash catalog query r by is asked
