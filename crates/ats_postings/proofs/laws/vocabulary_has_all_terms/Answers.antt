use Rattle.ats_postings.proofs.VocabularyLemmas.{vocabulary_contains}
use Rattle.ats_postings.proofs.laws.vocabulary_has_all_terms.Goals as goal

pub returns : goal.returns
returns c = vocabulary_contains
