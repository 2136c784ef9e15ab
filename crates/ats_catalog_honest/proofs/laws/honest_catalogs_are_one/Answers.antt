use Rattle.ats_catalog_honest.proofs.One.{one_bytes, one_file, one_proofs}
use Rattle.ats_catalog_honest.proofs.laws.honest_catalogs_are_one.Goals as goal

pub returns-clause-proofs : goal.returns-clause-proofs
returns-clause-proofs g c = λ catalog query r by a b first second. one_proofs g.H.HashKind.hash catalog query by r a b first second

pub returns-clause-file : goal.returns-clause-file
returns-clause-file g c = λ catalog query r by a b first second. one_file g.H.HashKind.hash catalog query by r a b first second

pub returns-clause-bytes : goal.returns-clause-bytes
returns-clause-bytes g c = λ catalog query r by a b first second. one_bytes g.H.HashKind.hash catalog query by r a b first second
