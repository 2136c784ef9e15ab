use Rattle.ats_catalog_bytes.proofs.Roots.{roots_bound}
use Rattle.ats_catalog_bytes.proofs.laws.roots_bind_catalogs.Goals as goal

pub returns : goal.returns
returns g c = roots_bound g.H.HashKind.hash g.H.HashKind.sized
