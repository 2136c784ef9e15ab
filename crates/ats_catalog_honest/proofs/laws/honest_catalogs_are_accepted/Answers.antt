use Rattle.ats_catalog_honest.proofs.Accepted.{file_accepted}
use Rattle.ats_catalog_honest.proofs.One.{spells_file}
use Rattle.ats_catalog_honest.proofs.laws.honest_catalogs_are_accepted.Goals as goal

pub returns-clause-file : goal.returns-clause-file
returns-clause-file g c = λ catalog query r by shards some is. file_accepted g.H.HashKind.hash catalog query r by shards some is

pub returns-clause-bytes : goal.returns-clause-bytes
returns-clause-bytes g c = λ catalog query r by bytes some is shards says.
    file_accepted g.H.HashKind.hash catalog query r by shards some (spells_file g.H.HashKind.hash catalog query by r bytes is shards says)
