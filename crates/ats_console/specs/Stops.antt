-- Why a command ends with another status than 0, and what it prints in this case.
use Rattle.std.specs.Prelude.{◌++◌, ℕ, List, codes, decimal}
use Rattle.ats_terms.specs.declared.query.QueryFault.{QueryFault}
use Rattle.ats_terms.specs.declared.query.QueryFault.TheVariants as query
use Rattle.ats_impact.specs.declared.collection.CollectionFault.{CollectionFault}
use Rattle.ats_impact.specs.declared.collection.CollectionFault.TheVariants as collection
use Rattle.ats_index.specs.declared.load.LoadFault.{LoadFault}
use Rattle.ats_index.specs.declared.load.LoadFault.TheVariants as index
use Rattle.ats_console.specs.Words.{usage_line}
use Rattle.ats_console.specs.declared.input.JsonFault.{JsonFault}
use Rattle.ats_console.specs.declared.input.JsonFault.TheVariants as json
use Rattle.ats_console.specs.declared.stops.Stop.{Stop}
use Rattle.ats_console.specs.declared.stops.Stop.TheVariants.{Usage, Shelf, Input, Rejected, Memory, Link, Peer, Faults, Collision}

-- ---- the lines of what is refused

abbrev pub input_line : List ℕ → List ℕ
input_line words = codes "input: " ++ (words ++ codes "\n")

-- a number of rows that is out of range
abbrev pub line_of_rows : ℕ → List ℕ
line_of_rows r = input_line (codes "r " ++ decimal r)

-- a file that has more bytes than this
abbrev pub line_of_limit : ℕ → List ℕ
line_of_limit limit = input_line (codes "longer than " ++ decimal limit)

-- an honest proof of so many bytes, which are more than a proof may have
abbrev pub line_of_long_proof : ℕ → List ℕ
line_of_long_proof bytes = input_line (codes "proof of " ++ (decimal bytes ++ codes " bytes"))

-- the first line of a list that is out of form
abbrev pub line_of_bad_line : ℕ → List ℕ
line_of_bad_line number = input_line (codes "list line " ++ decimal number)

-- the proofs of a list that have so many bytes together, which are more than a sweep may gather
abbrev pub line_of_long_proofs : ℕ → List ℕ
line_of_long_proofs bytes = input_line (codes "proofs of " ++ (decimal bytes ++ codes " bytes"))

abbrev pub peer_line : List ℕ → List ℕ
peer_line words = codes "peer: " ++ (words ++ codes "\n")

-- how many connections ended by a fault
abbrev pub line_of_faults : ℕ → List ℕ
line_of_faults count = codes "faults " ++ (decimal count ++ codes "\n")

-- ---- stops

abbrev pub status_of_stop : Stop → ℕ
status_of_stop Usage = 2
status_of_stop Shelf = 3
status_of_stop (Input line) = 4
status_of_stop (Rejected line) = 1
status_of_stop Memory = 6
status_of_stop Link = 8
status_of_stop (Peer line) = 9
status_of_stop (Faults count) = 10
status_of_stop (Collision lines) = 5

abbrev pub text_of_stop : Stop → List ℕ
text_of_stop Usage = usage_line
text_of_stop Shelf = codes "fault: shelf\n"
text_of_stop (Input line) = line
text_of_stop (Rejected line) = line
text_of_stop Memory = codes "memory\n"
text_of_stop Link = codes "fault: link\n"
text_of_stop (Peer line) = line
text_of_stop (Faults count) = line_of_faults count
text_of_stop (Collision lines) = lines

-- How a run ends: with all of its text; with a text after which it stopped; or with a text of which the sink did not
-- take all. A text is what was printed before the end, and then what the end prints.
pub data End : Type 0 where
  Done : List ℕ → List ℕ → End
  Stopped : List ℕ → Stop → End
  Unprinted : List ℕ → List ℕ → End

-- the status of an end
abbrev pub status_of : End → ℕ
status_of (Done former last) = 0
status_of (Stopped former stop) = status_of_stop stop
status_of (Unprinted former last) = 7

-- what was printed before it
abbrev pub former_of : End → List ℕ
former_of (Done former last) = former
former_of (Stopped former stop) = former
former_of (Unprinted former last) = former

-- what it prints
abbrev pub last_of : End → List ℕ
last_of (Done former last) = last
last_of (Stopped former stop) = text_of_stop stop
last_of (Unprinted former last) = last

-- ---- the stop of each fault, with its line

abbrev pub stop_of_query : QueryFault → Stop
stop_of_query (query.TooLong bytes) = Input (input_line (codes "query of " ++ (decimal bytes ++ codes " bytes")))
stop_of_query query.NoTerm = Input (input_line (codes "query has no term"))
stop_of_query (query.TooManyWords count) = Input (input_line (codes "query of " ++ (decimal count ++ codes " words")))
stop_of_query (query.TooManyTerms distinct) =
    Input (input_line (codes "query of " ++ (decimal distinct ++ codes " terms")))
stop_of_query query.OutOfMemory = Memory

abbrev pub stop_of_json : JsonFault → Stop
stop_of_json json.NotJson = Input (input_line (codes "not json"))
stop_of_json json.NotArray = Input (input_line (codes "not an array"))
stop_of_json (json.BadItem doc) = Input (input_line (codes "item " ++ decimal doc))
stop_of_json json.OutOfMemory = Memory

abbrev pub stop_of_collection : CollectionFault → Stop
stop_of_collection collection.NoDocuments = Input (input_line (codes "no documents"))
stop_of_collection (collection.TooMany n) = Input (input_line (decimal n ++ codes " documents"))
stop_of_collection (collection.TextTooLong doc) = Input (input_line (codes "text " ++ (decimal doc ++ codes " too long")))
stop_of_collection (collection.AllTooLong bytes) =
    Input (input_line (codes "texts of " ++ (decimal bytes ++ codes " bytes")))
stop_of_collection collection.OutOfMemory = Memory

abbrev pub stop_of_load : LoadFault → Stop
stop_of_load (index.BadIndex at) = Input (input_line (codes "index at " ++ decimal at))
stop_of_load index.OutOfMemory = Memory
