use Rattle.ats_postings.proofs.PostingLemmas.{list_is_sorted, sorted_is_list}
use Rattle.ats_postings.proofs.laws.lists_are_sorted_postings.Goals as goal

pub returns-clause-sorted : goal.returns-clause-sorted
returns-clause-sorted c = list_is_sorted

pub returns-clause-only : goal.returns-clause-only
returns-clause-only c = sorted_is_list
