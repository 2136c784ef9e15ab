-- Several archives, the shards, under one root.
use Rattle.std.specs.Prelude.{◌≤◌, ℕ, List, [], ◌∷◌, ◌++◌, length, map, slice_index_or}
use Rattle.std.specs.Int.{to_be_bytes, w32}
use Rattle.std.specs.List.{All}
use Rattle.ats_tree.specs.Tree.{mth}
use Rattle.ats_commit.specs.Archive.{Archive, archive_of}
use Rattle.ats_commit.specs.Own.{AreTexts}
use Rattle.ats_commit.specs.Root.{root_of}

-- 1 to 4,096 archives, in the order of their numbers as shards
pub record IsCatalog (catalog : List Archive) : Type 0 where
  pub some : 1 ≤ length catalog
  pub few : length catalog ≤ 4096
  pub texts : All (λ (archive : Archive). AreTexts archive.texts) catalog

-- the archive that is the shard with this number; past the last it has no texts
abbrev pub archive_at : List Archive → ℕ → Archive
archive_at catalog shard = slice_index_or catalog shard (archive_of [])

abbrev pub roots_of : (List ℕ → List ℕ) → List Archive → List (List ℕ)
roots_of H catalog = map (root_of H) catalog

-- the tag 2, then the header of a catalog: ATSC, version 1, the number of shards, and the root of the tree of their roots
abbrev pub catalog_string : ℕ → List ℕ → List ℕ
catalog_string shards tree_root = 2 ∷ 0x41 ∷ 0x54 ∷ 0x53 ∷ 0x43 ∷ 1 ∷ to_be_bytes w32 shards ++ tree_root

-- the same of shards with these roots, which are the leaves of the tree
abbrev pub string_over : (List ℕ → List ℕ) → List (List ℕ) → List ℕ
string_over H roots = catalog_string (length roots) (mth H roots)

abbrev pub root_over : (List ℕ → List ℕ) → List (List ℕ) → List ℕ
root_over H roots = H (string_over H roots)

abbrev pub catalog_root : (List ℕ → List ℕ) → List Archive → List ℕ
catalog_root H catalog = root_over H (roots_of H catalog)
