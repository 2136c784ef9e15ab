-- What other rooms may cite of the proofs of this one. All other files here are private.

-- for a list of numbers below n, the occurrences of all numbers below n add up to its length
pub use Rattle.ats_bound.proofs.Places.{counted_places}
-- the first k numbers of a list, if distinct, stay distinct with a next number not among them
pub use Rattle.ats_bound.proofs.Places.{distinct_more}
-- a list of distinct numbers below n has at most n numbers
pub use Rattle.ats_bound.proofs.Places.{few_places}
-- each number that occurs in a list has a position in the list
pub use Rattle.ats_bound.proofs.Places.{position_of}
-- the number at a position of a list occurs in the list at least once
pub use Rattle.ats_bound.proofs.Places.{stands}
-- a number that stands twice in a list occurs at least twice
pub use Rattle.ats_bound.proofs.Places.{stands_twice}
-- a number put before a list adds one to its own occurrences and none to those of others
pub use Rattle.ats_bound.proofs.Places.{times-cons}
-- a number put before a list leaves the occurrences of a different number as they were
pub use Rattle.ats_bound.proofs.Places.{times_other}
-- a number put before a list adds one to its own occurrences
pub use Rattle.ats_bound.proofs.Places.{times_same}
-- the first document of a whole lane is that of the first entry in the list given to the call
pub use Rattle.ats_bound.proofs.Exactly.{first_given}
-- the picks of a chosen answer are places in the list of brackets
pub use Rattle.ats_bound.proofs.Chain.{chosen_are_picks}
-- if any answer over brackets with ordered bounds is settled, the chosen answer is settled
pub use Rattle.ats_bound.proofs.Chain.{chosen_is_settled}
-- a list contains each number for which its membership test is true
pub use Rattle.ats_bound.proofs.Members.{contained_has}
-- the membership test of a list is true for each number that the list contains
pub use Rattle.ats_bound.proofs.Members.{has_contained}
-- removing duplicates from a list leaves its membership test the same for each number
pub use Rattle.ats_bound.proofs.Members.{has_deduped}
-- the impact of an entry if the entry names the document, and 0 otherwise
pub use Rattle.ats_bound.proofs.Lanes.{share}
-- the bracket of a met document from the shown entries holds its score, which is above 0
pub use Rattle.ats_bound.proofs.Scores.{bracket_holds}
-- the rests of the lanes that name a document and of those that do not add up to the threshold
pub use Rattle.ats_bound.proofs.Scores.{held_or_missing}
-- a document that no entry names scores at most the threshold, and a met one is one of the texts
pub use Rattle.ats_bound.proofs.Scores.{unmet_scores, met_below}
-- the lanes that do not name a document can add at most the threshold to its score
pub use Rattle.ats_bound.proofs.Scores.{missing_within}
-- a settled answer over brackets that contain the scores of the met documents is a top answer
pub use Rattle.ats_bound.proofs.Ranking.{settled_is_top}
-- documents outside an answer score at most what no bracket outside it and no threshold exceeds
pub use Rattle.ats_bound.proofs.Ranking.{answer_is_bounded}
-- whether the text of a document has the term
pub use Rattle.ats_bound.proofs.Texts.{has}
-- a term's list gives a document its posting's impact, or 0 if the document lacks the term
pub use Rattle.ats_bound.proofs.Texts.{listed}
-- a document's score is the sum of coefficient times impact over the lists of the query's terms
pub use Rattle.ats_bound.proofs.Texts.{score_listed}
-- the brackets of a cut have ordered bounds, if each bracket is formed with ordered bounds
pub use Rattle.ats_bound.proofs.One.{are_brackets}
-- two lists of the brackets of one cut are equal
pub use Rattle.ats_bound.proofs.One.{one_bracketing}
-- brackets whose documents rise strictly have distinct documents
pub use Rattle.ats_bound.proofs.One.{risen_are_distinct}
-- the looked-up bracket of a met document holds its score, if the table has the lists' impacts
pub use Rattle.ats_bound.proofs.Lookups.{lookup_holds}
-- two first settled cuts of one schedule are equal
pub use Rattle.ats_bound.proofs.OneCut.{one_first_settled}
-- two chosen answers of at most r rows over brackets of distinct documents are equal
pub use Rattle.ats_bound.proofs.OneAnswer.{one_chosen}
-- the met documents have a list of brackets, if each bracket is formed for its own document
pub use Rattle.ats_bound.proofs.Gathered.{brackets_exist}
-- each list of brackets has a chosen answer of at most r rows
pub use Rattle.ats_bound.proofs.Sorted.{chosen_exists}
-- each list has a sorted permutation under a test that never holds both ways
pub use Rattle.ats_bound.proofs.Sorted.{sorts}
-- the shown lane at a position of a cut is made from the lane given to the call and the cut's count
pub use Rattle.ats_bound.proofs.Shown.{at_lane}
-- a cut of lanes given to a call shows from one to all entries of each
pub use Rattle.ats_bound.proofs.Shown.{count_at}
-- a cut of lanes given to a call has as many counts as there are lanes
pub use Rattle.ats_bound.proofs.Shown.{cut_size}
-- a cut of lanes given to a call shows as many lanes as there are
pub use Rattle.ats_bound.proofs.Shown.{shown_size}
-- showing one more entry of a lane that has hidden entries lowers the number of hidden entries in all
pub use Rattle.ats_bound.proofs.Shown.{fewer_hidden}
-- each of a query's whole lanes has at least one entry
pub use Rattle.ats_bound.proofs.Shown.{have_entries}
-- the number of entries of a lane that are not shown
pub use Rattle.ats_bound.proofs.Shown.{hidden}
-- the lane with coefficient 0 and no entries, as default past the last lane
pub use Rattle.ats_bound.proofs.Shown.{no_lane}
-- each scheduled cut of lanes with entries shows from one to all entries of each lane
pub use Rattle.ats_bound.proofs.Shown.{scheduled_is_cut}
-- the lane at each position of whole lanes is a whole lane
pub use Rattle.ats_bound.proofs.Shown.{whole_at}
-- a walk at a reached cut is at its end if its chosen answer is settled
pub use Rattle.ats_bound.proofs.Advance.{end_at}
-- a cut that is reached and at which the walk stops is the first such cut
pub use Rattle.ats_bound.proofs.Advance.{first_here}
-- two first cuts of one schedule are equal, whatever the walk stops at
pub use Rattle.ats_bound.proofs.OneCut.{one_first}
-- a walk that is decided and stops where the threshold is 0 has a first cut
pub use Rattle.ats_bound.proofs.Ending.{first_exists}
-- if no answer is settled at a reached cut, the next cut of the schedule is reached
pub use Rattle.ats_bound.proofs.Advance.{reached_after}
-- if a walk does not stop at a reached cut after which no list comes next, it stops at no cut
pub use Rattle.ats_bound.proofs.Advance.{stops_nowhere}
-- if a list comes next at a cut, some list is not whole there
pub use Rattle.ats_bound.proofs.AllShown.{not_all_shown}
-- the first cut of the schedule is reached, as no cut comes before it
pub use Rattle.ats_bound.proofs.Advance.{reached_first}
-- at a cut with threshold 0 and brackets no wider than that, the chosen answer is settled
pub use Rattle.ats_bound.proofs.Whole.{whole_settled}
-- a bracket is narrow if its upper bound is its lower bound plus at most the threshold
pub use Rattle.ats_bound.proofs.Narrow.{is_narrow}
-- brackets formed from the shown entries only are no wider than the threshold
pub use Rattle.ats_bound.proofs.Ending.{brackets_are_narrow}
-- whole lanes have a first settled cut, if brackets are never wider than the threshold
pub use Rattle.ats_bound.proofs.Ending.{first_settled_exists}
-- brackets formed from looked-up scores are no wider than the threshold
pub use Rattle.ats_bound.proofs.Ending.{looked_up_are_narrow}
-- whole lanes have a first cut within floors, if they are within them where the threshold is 0
pub use Rattle.ats_bound.proofs.Within.{first_within_exists}
-- no place is chosen twice
pub use Rattle.ats_bound.proofs.Once.{chosen_once}
-- what a walk reports of the chosen answer is whether any answer is settled
pub use Rattle.ats_bound.proofs.Halted.{told_exactly}
-- a walk that stopped where some answer is settled, or at threshold 0, is at its end
pub use Rattle.ats_bound.proofs.Halted.{settled_there}
-- a walk that stopped at a cut within floors has the rows that are asked for
pub use Rattle.ats_bound.proofs.Halted.{within_there}
-- a walk that did not stop up to the last cut stops nowhere
pub use Rattle.ats_bound.proofs.Halted.{nowhere_after}
