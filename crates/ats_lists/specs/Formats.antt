-- How a list stands in trees, by its format: its root, its strings, and what its first entries give.
use Rattle.std.specs.Prelude.{◌≡◌, ℕ, ◌+◌, min, List, map, Option, Some, MatchOption, All, slice_get}
use Rattle.std.specs.List.{range_with_len}
use Rattle.ats_tree.specs.Differences.{Hashed, moved, Difference, first_difference}
use Rattle.ats_tree.specs.Elided.{elided_digests, shown_with}
use Rattle.ats_tree.specs.Nodes.{NodeNumbers, by_path, numbers_of}
use Rattle.ats_tree.specs.Paths.{path_of}
use Rattle.ats_tree.specs.Rebuild.{rebuilt}
use Rattle.ats_tree.specs.Shown.{Shown}
use Rattle.ats_tree.specs.Strings.{node_string, node_strings}
use Rattle.ats_tree.specs.Tree.{mth}
use Rattle.ats_lists.specs.Chain.{chain, chain_string, chain_elided}
use Rattle.ats_lists.specs.ChainPrefix.{chain_rebuilt, chain_strings}
use Rattle.ats_lists.specs.Leaf.{leaf_bytes}
use Rattle.ats_postings.specs.declared.entry.Entry.{Entry}
use Rattle.ats_lists.specs.declared.format.Format.{Format}
use Rattle.ats_lists.specs.declared.format.Format.TheVariants.{One, Two}

-- the root of a list
abbrev pub list_root : (List ℕ → List ℕ) → Format → List Entry → List ℕ
list_root H One entries = mth H (map leaf_bytes entries)
list_root H Two entries = chain H (map leaf_bytes entries)

-- the string of a list with these numbers, if there is one
abbrev pub list_string : (List ℕ → List ℕ) → Format → List Entry → NodeNumbers → Option (List ℕ)
list_string H One entries at = node_string H (map leaf_bytes entries) (by_path (path_of at.depth at.turns))
list_string H Two entries at = chain_string H (map leaf_bytes entries) at.depth at.turns

-- how deep the strings of a list of at most 2^h entries stand, at most
abbrev pub deepest : Format → ℕ → ℕ
deepest One h = h
deepest Two h = min (1 + h) 7

-- the leaves of the first `count` entries of a list, at their positions
abbrev pub first_leaves : List Entry → ℕ → List Shown
first_leaves entries count = shown_with (map leaf_bytes entries) (range_with_len 0 count)

-- the root of a list of `total` entries, from its first leaves, which are shown, and the digests of the rest
abbrev pub prefix_root : (List ℕ → List ℕ) → Format → ℕ → List Shown → List (List ℕ) → Option (List ℕ)
prefix_root H One total shown digests = rebuilt H total shown digests
prefix_root H Two total shown digests = chain_rebuilt H total shown digests

-- the strings that are hashed for that root, in their order
abbrev pub prefix_strings : (List ℕ → List ℕ) → Format → ℕ → List Shown → List (List ℕ) → List (Hashed NodeNumbers)
prefix_strings H One total shown digests = map (moved numbers_of) (node_strings H total shown digests)
prefix_strings H Two total shown digests = chain_strings H total shown digests

-- the digests that the first `count` entries of a list need
abbrev pub prefix_digests : (List ℕ → List ℕ) → Format → List Entry → ℕ → List (List ℕ)
prefix_digests H One entries count = elided_digests H (map leaf_bytes entries) (range_with_len 0 count)
prefix_digests H Two entries count = chain_elided H (map leaf_bytes entries) count

-- the first string that is hashed for that root and that differs from the string there of the list
abbrev pub list_difference : (List ℕ → List ℕ) → Format → ℕ → List Shown → List (List ℕ) → List Entry → Option (Difference NodeNumbers)
list_difference H format total shown digests entries =
    first_difference (list_string H format entries) (prefix_strings H format total shown digests)

-- each shown leaf is that of the list at its position, or else the first string that differs from the list's has the
-- digest of the string there
abbrev pub IsListBoundTo : (List ℕ → List ℕ) → Format → ℕ → List Shown → List (List ℕ) → List Entry → Type 0
IsListBoundTo H format total shown digests entries =
    MatchOption (list_difference H format total shown digests entries)
    (All (λ s. slice_get (map leaf_bytes entries) s.0 ≡ Some s.1) shown)
    (λ c. H c.theirs ≡ H c.ours)
