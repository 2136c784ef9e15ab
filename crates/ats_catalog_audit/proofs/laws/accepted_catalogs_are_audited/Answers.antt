use Rattle.ats_catalog_bytes.proofs.Public.{in_range}
use Rattle.ats_catalog_audit.proofs.Told.{told}
use Rattle.ats_catalog_audit.proofs.laws.accepted_catalogs_are_audited.Goals as goal

pub returns : goal.returns
returns g c root query r bytes shards asked accepted =
    told g.H.HashKind.hash g.H.HashKind.sized root query r bytes shards
    (c.accepted_catalogs_are_top.ensures root query r shards asked (in_range bytes shards accepted.says) accepted.accepts) accepted
