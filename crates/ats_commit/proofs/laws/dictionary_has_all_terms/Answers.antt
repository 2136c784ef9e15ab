use Rattle.ats_commit.proofs.DictionaryLemmas.{dictionary_terms, dictionary_numbers, dictionary_roots}
use Rattle.ats_commit.proofs.laws.dictionary_has_all_terms.Goals as goal

pub returns-clause-terms : goal.returns-clause-terms
returns-clause-terms g c = dictionary_terms g.H.HashKind.hash

pub returns-clause-numbers : goal.returns-clause-numbers
returns-clause-numbers g c = dictionary_numbers g.H.HashKind.hash

pub returns-clause-roots : goal.returns-clause-roots
returns-clause-roots g c = dictionary_roots g.H.HashKind.hash
