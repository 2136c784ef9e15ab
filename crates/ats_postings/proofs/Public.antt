-- What other rooms may cite of the proofs of this one. All other files here are private.

-- strictly sorted lists with the same members are equal, if the order distinguishes all elements
pub use Rattle.ats_postings.proofs.Rising.{same_members}
-- two sorted permutations of distinct elements are equal, if the order distinguishes all elements
pub use Rattle.ats_postings.proofs.Rising.{sorted_permutation_is_one}
-- the list of a term is its postings by impact descending, then document ascending
pub use Rattle.ats_postings.proofs.PostingLemmas.{list_is_sorted}
-- each posting of a term in the first n texts names a document below n
pub use Rattle.ats_postings.proofs.PostingLemmas.{postings_below}
-- the occurrences of a term in all texts together are the sum of its counts in each text
pub use Rattle.ats_postings.proofs.VocabularyLemmas.{occurs_in}
-- a term has as many postings as there are documents that have the term
pub use Rattle.ats_postings.proofs.VocabularyLemmas.{postings_frequency}
-- the vocabulary has at most as many terms as there are term occurrences in all texts
pub use Rattle.ats_postings.proofs.VocabularyLemmas.{vocabulary_few}
-- a term is in the vocabulary exactly if it has postings
pub use Rattle.ats_postings.proofs.VocabularyLemmas.{vocabulary_has}
-- the terms of the vocabulary rise strictly in byte order
pub use Rattle.ats_postings.proofs.VocabularyLemmas.{vocabulary_rises}
-- the list of a term has as many entries as there are documents that have the term
pub use Rattle.ats_postings.proofs.WholeLemmas.{list_frequency}
-- the list of a term with postings has distinct documents and impacts from 1 to 2200 that never rise
pub use Rattle.ats_postings.proofs.WholeLemmas.{list_keeps}
-- a list under a term among a collection's lists is the list of that term
pub use Rattle.ats_postings.proofs.ListedLemmas.{listed}
-- a term that is under none of a collection's lists has an empty list
pub use Rattle.ats_postings.proofs.ListedLemmas.{unlisted}
-- ---- what is needed to gather, join and sort entries

-- two runs of which the second begins where the first ends are one
pub use Rattle.ats_postings.proofs.PostingLemmas.{run_joined}
-- a run with one more document also has that document's posting, if it has the term
pub use Rattle.ats_postings.proofs.PostingLemmas.{run_more}
-- a run of no documents has no postings
pub use Rattle.ats_postings.proofs.PostingLemmas.{run_none}
-- the run of all documents has all postings
pub use Rattle.ats_postings.proofs.PostingLemmas.{run_of_all}
-- what is not above, and not equal, is below
pub use Rattle.ats_postings.proofs.Rising.{less_by}
-- elements that rise strictly are at one place each
pub use Rattle.ats_postings.proofs.Rising.{one_place}
-- what rises strictly is sorted
pub use Rattle.ats_postings.proofs.Rising.{sorted_from_rises}
-- entries in the order of documents, sorted, are those sorted by impact
pub use Rattle.ats_postings.proofs.Sorting.{sorted_gathered}
-- a list, if it has an element
pub use Rattle.ats_postings.proofs.VocabularyLemmas.{if_some}
-- pairs made from keys have these keys
pub use Rattle.ats_postings.proofs.VocabularyLemmas.{keys_made}
-- among pairs made from keys, each key is found with what was made for it
pub use Rattle.ats_postings.proofs.VocabularyLemmas.{lookup_made}
-- the postings of each term are in the order of documents
pub use Rattle.ats_postings.proofs.WholeLemmas.{all_gathered}
-- the lists of a collection's texts are valid
pub use Rattle.ats_postings.proofs.WholeLemmas.{lists_keep}
-- valid lists over some documents are valid over more
pub use Rattle.ats_postings.proofs.WholeLemmas.{lists_within}
-- these postings, sorted by impact, are the lists
pub use Rattle.ats_postings.proofs.WholeLemmas.{made_lists}
-- the terms of what was gathered are those of the vocabulary
pub use Rattle.ats_postings.proofs.WholeLemmas.{terms_are}
