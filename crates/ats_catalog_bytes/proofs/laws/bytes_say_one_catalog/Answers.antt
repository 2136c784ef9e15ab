use Rattle.ats_catalog_bytes.proofs.Fields.{one_catalog, one_join, in_range}
use Rattle.ats_catalog_bytes.proofs.laws.bytes_say_one_catalog.Goals as goal

pub returns : goal.returns
returns c = record { one = one_catalog; range = in_range; spelling = one_join }
