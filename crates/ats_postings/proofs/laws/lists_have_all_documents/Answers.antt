use Rattle.ats_postings.proofs.WholeLemmas.{list_frequency}
use Rattle.ats_postings.proofs.laws.lists_have_all_documents.Goals as goal

pub returns : goal.returns
returns c = list_frequency
