-- The digests of a list, as they are kept in either format.
use Rattle.std.specs.Prelude.{ℕ, ◌+◌, ◌/◌, List, map, length}
use Rattle.ats_tree.specs.Kept.{kept_digests}
use Rattle.ats_lists.specs.KeptChain.{kept_chain}
use Rattle.ats_lists.specs.Leaf.{leaf_bytes}
use Rattle.ats_postings.specs.declared.entry.Entry.{Entry}
use Rattle.ats_lists.specs.declared.format.Format.{Format}
use Rattle.ats_lists.specs.declared.format.Format.TheVariants.{One, Two}
use Rattle.ats_lists.specs.declared.list_keeping.ListDigests.{ListDigests}
use Rattle.ats_lists.specs.declared.list_keeping.ListDigests.TheVariants.{Tree, Blocks}

-- those of a list in this format
abbrev pub kept_list : (List ℕ → List ℕ) → Format → List Entry → ListDigests
kept_list H One entries = Tree (kept_digests H (map leaf_bytes entries))
kept_list H Two entries = Blocks (kept_chain H (map leaf_bytes entries))

-- the format in which they are kept
abbrev pub format_of : ListDigests → Format
format_of (Tree digests) = One
format_of (Blocks digests) = Two

-- how many entries the list has
abbrev pub entries_of : ListDigests → ℕ
entries_of (Tree digests) = (length digests + 1) / 2
entries_of (Blocks digests) = digests.entries
