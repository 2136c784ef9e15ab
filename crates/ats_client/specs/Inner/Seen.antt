-- The views of a proof during the check, as specifications see them.
use Rattle.std.specs.Prelude.{List}
use Rattle.ats_proof.specs.Value.{ShownEntry}
use Rattle.ats_proof.specs.Seen.{entries_of, entry_of}
use Rattle.ats_proof.specs.declared.dict.DictView.{DictView}
use Rattle.ats_client.specs.declared.leaf.Leaf.{Leaf}

-- the leaves that are left of the dictionary section
unfoldable pub entries_left : DictView → List ShownEntry
entries_left view = entries_of view

abbrev pub shown_of : Leaf → ShownEntry
shown_of leaf = record { position = leaf.position; entry = entry_of leaf.entry }
