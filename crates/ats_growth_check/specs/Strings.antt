-- The pairs of byte strings that a growth and two archives hash at the same places.
use Rattle.std.specs.Prelude.{◌≡◌, ◌<◌, ◌-◌, ℕ, List, [], ◌∷◌, ◌++◌, take, drop, map, reverse, Bool, true, false, Option, Some}
use Rattle.std.specs.List.{flat_map}
use Rattle.ats_tree.specs.Differences.{Hashed, moved, Difference, first_collision}
use Rattle.ats_tree.specs.Paths.{Path}
use Rattle.ats_tree.specs.Rebuild.{first_digest}
use Rattle.ats_tree.specs.Strings.{below, string_at}
use Rattle.ats_tree.specs.Tree.{Tree, empty, leaf, node, tree_of, digest_of}
use Rattle.ats_commit.specs.Archive.{Archive, header_tag}
use Rattle.ats_commit.specs.Root.{header_of, header_string}
use Rattle.ats_growth_check.specs.Pair.{roots}
use Rattle.ats_growth_check.specs.Shape.{turns}
use Rattle.ats_growth_check.specs.Value.{Growth}

-- where the first string of a pair stands: in one of five parts, beside the second string, if that is there
pub record Beside : Type 0 where
  pub part : ℕ
  pub second : Option (List ℕ)

-- the strings that are hashed to form the new root, from the root down
abbrev pub new_strings : (List ℕ → List ℕ) → List ℕ → Path → Bool → List (List ℕ) → List (Hashed Path)
new_strings H root [] known digests = []
new_strings H root (false ∷ path) known digests =
    record { place = []; text = 1 ∷ (roots H root path known (drop 1 digests)).new ++ first_digest digests }
    ∷ map (below false) (new_strings H root path known (drop 1 digests))
new_strings H root (true ∷ path) known digests =
    record { place = []; text = 1 ∷ first_digest digests ++ (roots H root path false (drop 1 digests)).new }
    ∷ map (below true) (new_strings H root path false (drop 1 digests))

-- The strings that are hashed to form the old root, from the root down. A left turn hashes none and does not lead further
-- down in the old tree.
abbrev pub old_strings : (List ℕ → List ℕ) → List ℕ → Path → Bool → List (List ℕ) → List (Hashed Path)
old_strings H root [] known digests = []
old_strings H root (false ∷ path) known digests = old_strings H root path known (drop 1 digests)
old_strings H root (true ∷ path) known digests =
    record { place = []; text = 1 ∷ first_digest digests ++ (roots H root path false (drop 1 digests)).old }
    ∷ map (below true) (old_strings H root path false (drop 1 digests))

-- a range of documents in the tree of the old texts, and the same range in the tree of the new ones
pub record Range : Type 0 where
  pub old : Tree (List ℕ)
  pub new : Tree (List ℕ)

-- the ranges whose digests form both roots, in the order of the digests in the file
abbrev pub ranges : Path → Tree (List ℕ) → Tree (List ℕ) → List Range
ranges [] old new = record { old = old; new = new } ∷ []
ranges (false ∷ path) old (node left right) = ranges path old left
ranges (true ∷ path) (node same more) (node left right) = ranges path more right ++ record { old = same; new = left } ∷ []
ranges (turn ∷ path) old new = []

-- the tree of the n texts from document `from` on
abbrev pub part_of : (from n : ℕ) → List (List ℕ) → Tree (List ℕ)
part_of from n texts = tree_of (take n (drop from texts))

-- These ranges are the documents from `first` up to `end`, each once and the later ones first. Each range has the same
-- documents in the old texts and in the new ones, and at least one.
abbrev pub AreRangesOf : (old new : List (List ℕ)) → (first end : ℕ) → List Range → Type 0
AreRangesOf old new first end [] = end ≡ first
AreRangesOf old new first end (range ∷ more) = (from : ℕ) × (from < end)
    × (range ≡ record { old = part_of from (end - from) old; new = part_of from (end - from) new })
    × AreRangesOf old new first from more

-- the strings that are hashed at all nodes of a tree in pre-order: a node, its left part, its right part
abbrev pub all_strings : (List ℕ → List ℕ) → Tree (List ℕ) → List (Hashed Path)
all_strings H empty = []
all_strings H (leaf text) = record { place = []; text = 0 ∷ text } ∷ []
all_strings H (node left right) =
    record { place = []; text = 1 ∷ digest_of H left ++ digest_of H right }
    ∷ map (below false) (all_strings H left) ++ map (below true) (all_strings H right)

-- a string of this part, beside the string at the same place of a tree
abbrev pub beside : (List ℕ → List ℕ) → ℕ → Tree (List ℕ) → Path → Beside
beside H part tree path = record { part = part; second = string_at H tree path }

-- the string of a header, beside that of an archive
abbrev pub header_pair : (List ℕ → List ℕ) → ℕ → List ℕ → Archive → Hashed Beside
header_pair H part string archive =
    record { place = record { part = part; second = Some (header_tag archive.format ∷ header_of H archive) }; text = string }

-- the strings of a range in the old texts, each beside that in the new ones
abbrev pub range_pairs : (List ℕ → List ℕ) → Range → List (Hashed Beside)
range_pairs H range = map (moved (beside H 5 range.new)) (all_strings H range.old)

-- All pairs. Part 1: the old header, beside that of the old archive. Part 2: the new header, beside that of the new
-- archive. Part 3: the strings of the new root, beside those of the new texts. Part 4: the strings of the old root, beside
-- those of the old texts. Part 5: the strings of the old texts in the ranges whose digests form both roots, beside those
-- of the new texts.
abbrev pub pairs : (List ℕ → List ℕ) → Archive → Archive → Growth → List (Hashed Beside)
pairs H older newer g =
    header_pair H 1 (header_string g.old_format g.old) older
    ∷ header_pair H 2 (header_string g.new_format g.new) newer
    ∷ map (moved (beside H 3 (tree_of newer.texts)))
    (new_strings H g.old.texts_root (turns g.old.documents g.new.documents) true (reverse g.digests))
    ++ (map (moved (beside H 4 (tree_of older.texts)))
    (old_strings H g.old.texts_root (turns g.old.documents g.new.documents) true (reverse g.digests))
    ++ flat_map (range_pairs H)
    (ranges (turns g.old.documents g.new.documents) (tree_of older.texts) (tree_of newer.texts)))

-- the second string of a pair
abbrev pub second_of : Beside → Option (List ℕ)
second_of place = place.second

-- the first pair of different strings with equal digests
abbrev pub growth_collision : (List ℕ → List ℕ) → Archive → Archive → Growth → Option (Difference Beside)
growth_collision H older newer g = first_collision H second_of (pairs H older newer g)
