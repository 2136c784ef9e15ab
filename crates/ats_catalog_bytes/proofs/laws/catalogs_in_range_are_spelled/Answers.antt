use Rattle.std.specs.List.{concat}
use Rattle.ats_catalog_bytes.specs.Value.{fields_of}
use Rattle.ats_catalog_bytes.proofs.Fields.{spells}
use Rattle.ats_catalog_bytes.proofs.laws.catalogs_in_range_are_spelled.Goals as goal

pub returns : goal.returns
returns c shards are = (concat (fields_of shards), spells shards are)
