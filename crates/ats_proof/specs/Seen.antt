-- What contracts see of the views: the digests, leaves and entries in their bytes.
use Rattle.std.specs.Prelude.{ℕ, List, take, drop, ◌+◌}
use Rattle.ats_tree.specs.Shown.{Shown}
use Rattle.ats_dict.specs.Entry.{DictEntry}
use Rattle.ats_dict.specs.declared.dictionary.DictLeaf.{DictLeaf}
use Rattle.ats_proof.specs.Parts.{parts_in}
use Rattle.ats_proof.specs.Value.{ShownEntry}
use Rattle.ats_proof.specs.Reading.{digest_size, digest_in, entry_size, entry_in, term_length_in}
use Rattle.ats_proof.specs.Runs.{leaves_in}
use Rattle.ats_proof.specs.declared.digests.DigestRun.{DigestRun}
use Rattle.ats_proof.specs.declared.leaves.LeafRun.{LeafRun}
use Rattle.ats_proof.specs.declared.dict.DictView.{DictView}

abbrev pub digests_of : DigestRun → List (List ℕ)
digests_of run = parts_in digest_size digest_in run.left run.bytes.now

abbrev pub leaves_of : LeafRun → List Shown
leaves_of run = leaves_in run.after_term run.left run.bytes.now

-- the length and the term of the first leaf in the bytes
abbrev pub term_front : List ℕ → List ℕ
term_front bytes = take (1 + term_length_in bytes) (drop 4 bytes)

abbrev pub entries_of : DictView → List ShownEntry
entries_of view = parts_in entry_size entry_in view.leaves.left view.leaves.bytes.now

abbrev pub entry_of : DictLeaf → DictEntry
entry_of leaf = record { term = leaf.term.now; f = leaf.f; root = leaf.list_root }
