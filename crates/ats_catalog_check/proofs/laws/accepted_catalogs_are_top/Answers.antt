use Rattle.ats_catalog_check.proofs.Soundness.{accepted_top}
use Rattle.ats_catalog_check.proofs.laws.accepted_catalogs_are_top.Goals as goal

pub returns : goal.returns
returns g c root query r shards asked range accepts = accepted_top g.H.HashKind.hash g.H.HashKind.sized query asked root r shards range accepts
