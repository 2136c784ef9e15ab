use Rattle.ats_all_check.proofs.Meaning.{has_documents, rises}
use Rattle.ats_all_check.proofs.laws.both_has_all_documents.Goals as goal

pub returns : goal.returns
returns c = record {
  has = has_documents;
  rise = rises;
}
