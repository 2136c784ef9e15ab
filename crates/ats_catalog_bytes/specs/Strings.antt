-- The byte strings that the root of a catalog hashes over the roots of its shards, compared with those of other roots.
use Rattle.std.specs.Prelude.{ℕ, List, [], ◌∷◌, length, map, Bool, true, false, Option, Some}
use Rattle.std.specs.List.{range_with_len}
use Rattle.ats_tree.specs.Differences.{Hashed, moved, Difference, first_collision}
use Rattle.ats_tree.specs.Elided.{shown_with}
use Rattle.ats_tree.specs.Nodes.{NodeNumbers, by_path, numbers_of}
use Rattle.ats_tree.specs.Paths.{path_of}
use Rattle.ats_tree.specs.Strings.{node_string, node_strings}
use Rattle.ats_catalog_bytes.specs.Catalog.{string_over}

-- where a string is hashed: the header of the catalog, which has depth and turns 0, or a node of the tree of the roots, by
-- its two numbers
pub record RootsPlace : Type 0 where
  pub header : Bool
  pub depth : ℕ
  pub turns : ℕ

abbrev pub catalog_place : RootsPlace
catalog_place = record { header = true; depth = 0; turns = 0 }

abbrev pub in_roots : NodeNumbers → RootsPlace
in_roots at = record { header = false; depth = at.depth; turns = at.turns }

-- the strings of the tree of the roots: a node, its left part, its right part. Each leaf is shown, so no digest is needed
abbrev pub tree_strings : (List ℕ → List ℕ) → List (List ℕ) → List (Hashed RootsPlace)
tree_strings H roots =
    map (moved in_roots) (map (moved numbers_of)
    (node_strings H (length roots) (shown_with roots (range_with_len 0 (length roots))) []))

-- the header's string, then those of the tree
abbrev pub roots_strings : (List ℕ → List ℕ) → List (List ℕ) → List (Hashed RootsPlace)
roots_strings H roots = record { place = catalog_place; text = string_over H roots } ∷ tree_strings H roots

-- the string of these roots at a place, if there is one
abbrev pub roots_string : (List ℕ → List ℕ) → List (List ℕ) → RootsPlace → Option (List ℕ)
roots_string H roots place = elim place.header [
  | true ↦ Some (string_over H roots)
  | false ↦ node_string H roots (by_path (path_of place.depth place.turns))
]

-- the first of their strings that differs from ours at its place and has an equal digest
abbrev pub roots_collision : (List ℕ → List ℕ) → (ours theirs : List (List ℕ)) → Option (Difference RootsPlace)
roots_collision H ours theirs = first_collision H (roots_string H ours) (roots_strings H theirs)
