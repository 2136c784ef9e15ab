-- What contracts see of the views of the prefixes.
use Rattle.std.specs.Prelude.{List}
use Rattle.ats_proof.specs.Parts.{parts_in}
use Rattle.ats_proof.specs.Value.{Prefix}
use Rattle.ats_proof.specs.Reading.{posting_size, posting_in, prefix_size, prefix_in}
use Rattle.ats_proof.specs.Seen.{digests_of}
use Rattle.ats_proof.specs.declared.lists.ListsView.{ListsView}
use Rattle.ats_proof.specs.declared.lists.ListView.{ListView}

abbrev pub lists_of : ListsView → List Prefix
lists_of view = parts_in prefix_size prefix_in view.left view.bytes.now

abbrev pub list_of : ListView → Prefix
list_of view = record { entries = parts_in posting_size posting_in view.count view.entries.now; digests = digests_of view.digests }
