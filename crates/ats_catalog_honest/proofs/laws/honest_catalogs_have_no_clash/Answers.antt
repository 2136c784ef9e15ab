use Rattle.ats_catalog_honest.proofs.One.{spells_file}
use Rattle.ats_catalog_honest.proofs.Unclashing.{file_unclashing, shares_unclashing}
use Rattle.ats_catalog_honest.proofs.laws.honest_catalogs_have_no_clash.Goals as goal

pub returns-clause-shares : goal.returns-clause-shares
returns-clause-shares g c = λ catalog query by shares proofs shards honest frames others say.
    shares_unclashing g.H.HashKind.hash query by shares catalog proofs honest shards frames others say

pub returns-clause-file : goal.returns-clause-file
returns-clause-file g c = λ catalog query r by shards is proofs say. file_unclashing g.H.HashKind.hash query catalog r by shards is proofs say

pub returns-clause-bytes : goal.returns-clause-bytes
returns-clause-bytes g c = λ catalog query r by bytes is shards proofs says say.
    file_unclashing g.H.HashKind.hash query catalog r by shards (spells_file g.H.HashKind.hash catalog query by r bytes is shards says) proofs say
