-- The views of prefixes during the check, as specifications see them.
use Rattle.std.specs.Prelude.{List}
use Rattle.ats_proof.specs.Value.{Prefix}
use Rattle.ats_proof.specs.Seen.{entry_of}
use Rattle.ats_proof.specs.SeenLists.{list_of, lists_of}
use Rattle.ats_proof.specs.declared.lists.ListView.{ListView}
use Rattle.ats_proof.specs.declared.lists.ListsView.{ListsView}
use Rattle.ats_client.specs.Presented.{Presented}
use Rattle.ats_client.specs.declared.present_term.Present.{Present}

-- a prefix, and those that are left
unfoldable pub prefix_of : ListView → Prefix
prefix_of view = list_of view

unfoldable pub prefixes_left : ListsView → List Prefix
prefixes_left view = lists_of view

-- the present term that is checked
abbrev pub presented_of : Present → Presented
presented_of one = record { number = one.number; weight = one.weight; entry = entry_of one.entry; prefix = prefix_of one.list }
