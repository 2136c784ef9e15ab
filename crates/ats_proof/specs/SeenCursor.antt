-- What contracts see of the cursor over a prefix.
use Rattle.std.specs.Prelude.{ℕ, ◌*◌, List, take, drop}
use Rattle.ats_tree.specs.Shown.{Shown}
use Rattle.ats_proof.specs.Parts.{number_in, parts_in}
use Rattle.ats_proof.specs.Reading.{id_size, id_in, posting_size, posting_in}
use Rattle.ats_proof.specs.Runs.{shown_list}
use Rattle.ats_proof.specs.declared.cursor.ListCursor.{ListCursor}

abbrev pub met_of : ListCursor → List ℕ
met_of cursor = parts_in id_size id_in cursor.met cursor.ids.now

abbrev pub list_leaves_of : ListCursor → List Shown
list_leaves_of cursor = shown_list cursor.at (met_of cursor) (parts_in posting_size posting_in cursor.left cursor.entries.now)

-- the bytes of the met id that the first entry names
abbrev pub id_front : List ℕ → List ℕ → List ℕ
id_front ids entries = take 4 (drop (4 * number_in 4 entries) ids)
