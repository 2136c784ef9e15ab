-- What other rooms may cite of the proofs of this one. All other files here are private.

-- if a test passes before position i of a list and fails from i on, it passes i times
pub use Rattle.ats_honest.proofs.Places.{count_at_point}
-- a strictly increasing list of numbers never decreases
pub use Rattle.ats_honest.proofs.Places.{never_falls}
-- in a strictly increasing list, exactly i numbers are below the number at position i
pub use Rattle.ats_honest.proofs.Places.{place_at}
-- if a number up to 2^24 bounds the lower position of each term's spot, 2^24 bounds those of all spots
pub use Rattle.ats_honest.proofs.Spots.{all_low}
-- each leaf of a dictionary has a term of at most 64 bytes, a 4-byte frequency and a 32-byte root
pub use Rattle.ats_honest.proofs.Spots.{leaf_at}
-- in a dictionary of at most 2^24 entries, the lower position of each query term's spot is at most 2^24
pub use Rattle.ats_honest.proofs.Spots.{lowers}
-- if each term has its spot, the spot at position i belongs to the term at position i
pub use Rattle.ats_honest.proofs.Spots.{one_of_spots}
-- spot i of a query's spots in the dictionary is the spot of query term i
pub use Rattle.ats_honest.proofs.Spots.{spot_at}
-- a query has as many spots in the dictionary as it has terms
pub use Rattle.ats_honest.proofs.Spots.{spot_each}
-- if each term has its spot, there are as many spots as terms
pub use Rattle.ats_honest.proofs.Spots.{spots_each}
-- the spots of the first terms, with the next term's spot appended, are the spots of one term more
pub use Rattle.ats_honest.proofs.Spots.{spots_more}
-- showing at most 64 positions of a tree of at most 2^25 leaves needs at most 1601 elided digests
pub use Rattle.ats_honest.proofs.Elided.{dictionary_few}
-- showing any leaves of a tree of at most 65536 leaves needs at most 65536 elided digests
pub use Rattle.ats_honest.proofs.Elided.{documents_few}
-- all positions that spots need, sorted and without duplicates, are the needed positions
pub use Rattle.ats_honest.proofs.Needed.{are_needed}
-- spots need at most twice as many positions as there are spots, duplicates included
pub use Rattle.ats_honest.proofs.Needed.{needs_few}
-- for a cut with one count per lane, list front i is made from lane i's list and count i
pub use Rattle.ats_honest.proofs.Fronts.{prefix_at}
-- a cut with one count per lane shows as many list fronts as there are lanes
pub use Rattle.ats_honest.proofs.Fronts.{prefix_each}
-- the first k entries of an inverted list have impacts below 2^16
pub use Rattle.ats_honest.proofs.Fronts.{small_impacts}
-- the entries of the lane are an inverted list over n documents
pub use Rattle.ats_honest.proofs.Present.{HasList}
-- a term that lies between two leaves of the dictionary occurs in no text of the archive
pub use Rattle.ats_honest.proofs.Present.{absent_term}
-- a query term at dictionary leaf p + 1 adds list p, with the term's coefficient, as the next lane
pub use Rattle.ats_honest.proofs.Present.{lane_at}
-- a query term that no text has adds no lane to those of the terms before it
pub use Rattle.ats_honest.proofs.Present.{lane_none}
-- the entries of each lane of a query are an inverted list over the texts
pub use Rattle.ats_honest.proofs.Present.{lanes_have_lists}
-- over at most 65536 texts they are one over 65536 documents
pub use Rattle.ats_honest.proofs.Present.{lists_within}
-- each list of a collection is the list of its term
pub use Rattle.ats_honest.proofs.Present.{list_at}
-- a term at leaf p + 1 of the dictionary is the term of the collection's list p
pub use Rattle.ats_honest.proofs.Present.{standing_term}
-- some text of the archive has a term that is at leaf p + 1 of the dictionary
pub use Rattle.ats_honest.proofs.Present.{present_term}
-- a first query term that some text has puts its lane in front of the other terms' lanes
pub use Rattle.ats_honest.proofs.Present.{with_lane}
-- a first query term that no text has adds no lane to the other terms' lanes
pub use Rattle.ats_honest.proofs.Present.{with_none}
-- if the next query term is at a leaf, it is appended to the earlier terms that are at leaves
pub use Rattle.ats_honest.proofs.StandingTerms.{standing_more}
-- the query terms that are at a dictionary leaf are those that some text has
pub use Rattle.ats_honest.proofs.StandingTerms.{standing_present}
-- if the terms of a query rise strictly, those of them that are at leaves rise strictly
pub use Rattle.ats_honest.proofs.StandingTerms.{standing_rises}
-- a next query term that lies between two leaves adds nothing to the earlier terms at leaves
pub use Rattle.ats_honest.proofs.StandingTerms.{standing_same}
-- all entries of lanes with inverted lists over 65536 documents name documents below 65536
pub use Rattle.ats_honest.proofs.MetDocuments.{lists_below}
-- all documents that shown entries name, sorted and without duplicates, are those that the cut meets
pub use Rattle.ats_honest.proofs.MetDocuments.{are_met}
-- the documents that the shown entries of a lane name
pub use Rattle.ats_honest.proofs.MetDocuments.{docs_in}
-- the documents of a cut's brackets are those that the cut meets
pub use Rattle.ats_honest.proofs.MetDocuments.{brackets_met}
-- if a cut meets a document, there is at least one lane
pub use Rattle.ats_honest.proofs.MetDocuments.{met_lists}
-- if all entries name documents below n, the documents that a cut meets are below n
pub use Rattle.ats_honest.proofs.MetDocuments.{met_low}
-- a shown entry of the cut names each of the documents that it meets
pub use Rattle.ats_honest.proofs.MetDocuments.{met_named}
-- a strictly increasing list of numbers below n has at most n numbers
pub use Rattle.ats_honest.proofs.MetDocuments.{rising_few}
-- positions that spots need are below n + 2, if each spot's lower position is at most n
pub use Rattle.ats_honest.proofs.Ranges.{all_below}
-- the positions needed to show a query's terms in the dictionary are positions of its leaves
pub use Rattle.ats_honest.proofs.Ranges.{positions_below}
-- the lower position of a term's spot in a terms tree is at most the number of terms
pub use Rattle.ats_honest.proofs.Items.{lower_item}
-- an honest section for one or more rising terms, with at most 64 leaves, has its fields in grammar order
pub use Rattle.ats_honest.proofs.Items.{section_comes}
-- the section built from the spots of terms, with the positions that they need, is honest
pub use Rattle.ats_honest.proofs.Items.{is_section}
-- the section that shows given leaves of a document's terms, with elided digests and a slot for each spot
pub use Rattle.ats_honest.proofs.Items.{section_of}
-- the number of term leaves that a documents leaf states is below 2^32
pub use Rattle.ats_honest.proofs.MetLeaves.{IsSmall}
-- within the size limits, the fields of met documents are in grammar order if those of their sections are
pub use Rattle.ats_honest.proofs.MetLeaves.{documents_come}
-- the documents tree has one leaf for each text
pub use Rattle.ats_honest.proofs.MetLeaves.{documents_each}
-- the spots, positions, cut, documents and rows are those of a proof of the cut, within the limits
pub use Rattle.ats_honest.proofs.Whole.{HasParts}
-- a TRA proof of a cut has a leaf and a section per met document, with a slot per present term
pub use Rattle.ats_honest.proofs.Whole.{documents_are}
-- the proof built from the right spots, positions and documents is a proof of the cut
pub use Rattle.ats_honest.proofs.Whole.{shown_of}
-- the lanes of a query over at most 65536 texts are whole lanes
pub use Rattle.ats_honest.proofs.Exists.{lanes_are_whole}
-- a proof built from the right parts has one list front for each slot whose term is present
pub use Rattle.ats_honest.proofs.Whole.{lists_each}
-- the fields of a proof built from the right parts are in the grammar's order
pub use Rattle.ats_honest.proofs.Whole.{proof_comes}
-- the proof over an archive made of spots, leaf positions, a cut, met documents, what is shown of them, and rows
pub use Rattle.ats_honest.proofs.Whole.{proof_of}
-- an honest TNRA proof for at most 32 query terms and 1000 rows has at most 2^26 bytes
pub use Rattle.ats_honest.proofs.Short.{honest_short}
-- if a term is at a leaf of a document's terms, its list gives the document the leaf's impact
pub use Rattle.ats_honest.proofs.LookedUp.{looked_up_at}
-- if a term lies between two leaves of a document's terms, its list gives the document impact 0
pub use Rattle.ats_honest.proofs.LookedUp.{looked_up_between}
-- the impact looked up by a term's number and a document is the document's in the term's list
pub use Rattle.ats_honest.proofs.Lookups.{looked_up_in}
-- the impact looked up for a document number past the last text is 0, whatever the term's number
pub use Rattle.ats_honest.proofs.Lookups.{looked_up_out}
-- the impact looked up by a number past the last term is 0
pub use Rattle.ats_honest.proofs.Lookups.{looked_up_past}
-- the cut of an honest proof shows from one to all entries of each lane
pub use Rattle.ats_honest.proofs.ShownCut.{honest_cut}
-- the honest proof of a shard exists, if its whole lists are within the floors
pub use Rattle.ats_honest.proofs.Exists.{within_exists}
-- two honest proofs of one walk are equal
pub use Rattle.ats_honest.proofs.OneProof.{one_honest}
-- the documents of an honest proof's brackets are those that its cut meets
pub use Rattle.ats_honest.proofs.ShownCut.{honest_met}
-- two proofs of one cut without an answer are equal
pub use Rattle.ats_honest.proofs.OneProof.{one_cut_shown}
-- two honest proofs for one archive, query, row limit and algorithm are equal
pub use Rattle.ats_honest.proofs.OneProof.{one_proof}
-- the brackets of either algorithm are no wider than the threshold
pub use Rattle.ats_honest.proofs.Exists.{narrow}
