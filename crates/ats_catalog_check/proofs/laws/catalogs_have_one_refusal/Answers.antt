use Rattle.ats_catalog_check.proofs.Refusals.{one_refusal, not_refused}
use Rattle.ats_catalog_check.proofs.laws.catalogs_have_one_refusal.Goals as goal

pub returns-clause-one : goal.returns-clause-one
returns-clause-one g c = one_refusal g.H.HashKind.hash

pub returns-clause-none : goal.returns-clause-none
returns-clause-none g c = not_refused g.H.HashKind.hash
