-- What other rooms may cite of the proofs of this one. All other files here are private.

-- where a step ended, and the value that it came to, lead on to what comes after it
pub use Rattle.ats_console.proofs.Fronts.{lands}
-- the stop of a first fault is for out of memory, or it stops by that fault
pub use Rattle.ats_console.proofs.Fronts.{stops_by}
-- a query leads past its step
pub use Rattle.ats_console.proofs.Fronts.{leads_query}
-- a number of rows in range and a query lead past the first two steps of a ranking
pub use Rattle.ats_console.proofs.Fronts.{leads_ranking}
-- a file, a collection, an index or a list of roots that was read leads past its step
pub use Rattle.ats_console.proofs.Fronts.{leads_bytes, leads_collection, leads_index, leads_roots}
-- what such a step found
pub use Rattle.ats_console.proofs.Fronts.{has_index}
-- it is still there, an index also after later steps that leave the files
pub use Rattle.ats_console.proofs.Fronts.{still_bytes, still_collection, still_index, still_roots}
-- such a step left the files
pub use Rattle.ats_console.proofs.Fronts.{same_bytes, same_index}
-- the archives of named indexes lead on to what comes after them; if one was not read, what they are the first steps of
-- stopped there
pub use Rattle.ats_console.proofs.Archives.{leads_archives, at_archives}
-- they are those of the indexes, which are still there
pub use Rattle.ats_console.proofs.Archives.{has_archives, same_archives}
-- they are read one after another, from none to all of them; a stop at the next
pub use Rattle.ats_console.proofs.Archives.{AreSoFar, none_so_far, so_far_more, all_read_so, stops_at}
-- memory may run out after some steps, whatever comes after them
pub use Rattle.ats_console.proofs.Fronts.{ran_out, memory_stops}
-- if such a step stopped, what it is the first step of stopped there
pub use Rattle.ats_console.proofs.Fronts.{at_bytes, at_collection, at_index, at_roots}
-- a stop that is passed on keeps its cause at the exit of a `?`
pub use Rattle.ats_console.proofs.Fronts.{passed}
-- a step that finds no value, or does not hold, stops what comes to it
pub use Rattle.ats_console.proofs.Fronts.{get_stops, try_stops}
-- so does a text that is no query
pub use Rattle.ats_console.proofs.Fronts.{text_stops}
-- so does a number of rows out of range, and then a text that is no query
pub use Rattle.ats_console.proofs.Fronts.{rows_stops, query_stops}
-- a query has no fault, and a text has at most one
pub use Rattle.ats_console.proofs.OneFault.{no_query_fault, one_query_fault}
-- a number of rows in range and a query that was read are within the limits
pub use Rattle.ats_console.proofs.Fronts.{rows_of_range, asks_of}
-- bytes that are refused stop what comes to their check
pub use Rattle.ats_console.proofs.Fronts.{check_stops}
-- bytes are accepted as one proof
pub use Rattle.ats_console.proofs.Sound.{one_accepted}
-- a plan that goes one way at most and stops for no words, by its first step
pub use Rattle.ats_console.proofs.Sound.{Sound, ends, stores, fails, tries, gets, makes, reads}
-- these stops are not for words
pub use Rattle.ats_console.proofs.Sound.{not_shelf, not_memory, not_input, not_rejected, not_collision}
-- a step that commands share keeps that
pub use Rattle.ats_console.proofs.Sound.{query_sound, ranking_sound, collection_sound, index_sound, roots_sound, names_sound, archives_sound, checks_sound}
-- bytes that spell a proof are its fields
pub use Rattle.ats_console.proofs.OneProof.{spelled_fields}
-- an honest proof within a limit is not too long, and one that is has one length
pub use Rattle.ats_console.proofs.OneProof.{honest_short, one_length}
-- the honest proof that is made is one, and it is made or too long in one way
pub use Rattle.ats_console.proofs.OneProof.{one_made, made_short, length_exact}
-- a file of each kind is accepted or rejected in one way, and its check keeps that a plan goes one way
pub use Rattle.ats_console.proofs.OneKind.{IsKindOne, text_one, both_one, growth_one, catalog_one, named_sound}
-- bytes that were accepted end a command
pub use Rattle.ats_console.proofs.KindEnds.{check_end}
-- the texts of an index are UTF-8 and within the limits
pub use Rattle.ats_console.proofs.KindEnds.{texts_of}
-- a list that is read line by line, its next line, and its end; a list with no lines
pub use Rattle.ats_console.proofs.ListReading.{AreRead, read_more, all_read, as_many_read, next_bad, no_lines}
-- bytes are one list if each line has one reading, as any two lists are that go along a third in one way
pub use Rattle.ats_console.proofs.OneList.{list_one, same_zip}
