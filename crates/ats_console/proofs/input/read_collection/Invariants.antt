use Rattle.std.proofs.Common.{◌≡◌, map, take, Some}
use Rattle.serde_json.specs.View.{view}
use Rattle.ats_console.specs.Input.{item_text}
use Rattle.ats_console.proofs.input.read_collection.Given as goal

-- the texts so far are those of the items so far
abbrev pub invariant-loop-doc : goal.invariant-loop-doc
invariant-loop-doc l = map item_text (take l.doc (map view l.item-items)) ≡ map Some l.texts
