use Rattle.ats_catalog_honest.proofs.Shared.{shared_are_settled}
use Rattle.ats_catalog_honest.proofs.laws.shares_are_settled.Goals as goal

pub returns : goal.returns
returns c = λ shares r shards shared. shared_are_settled shares r shards shared
