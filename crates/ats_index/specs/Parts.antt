-- The parts of an archive's index, under a hash function H.
use Rattle.std.specs.Prelude.{ℕ, List, map}
use Rattle.ats_lists.specs.declared.format.Format.{Format}
use Rattle.ats_doctree.specs.Impacts.{text_terms}
use Rattle.ats_doctree.specs.declared.doc_leaf.DocLeaf.{DocLeaf}
use Rattle.ats_commit.specs.Archive.{Archive}
use Rattle.ats_commit.specs.Trees.{leaf_of_terms}

-- the archive of these texts, with its lists in this format
abbrev pub archive_in : Format → List (List ℕ) → Archive
archive_in format texts = record { texts = texts; format = format }

-- the documents leaf of each document
abbrev pub all_leaves : (List ℕ → List ℕ) → List (List ℕ) → List DocLeaf
all_leaves H texts = map (λ text. leaf_of_terms H (text_terms texts text)) texts
