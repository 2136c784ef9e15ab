-- The digests of all nodes of a tree, as they are kept.
use Rattle.std.specs.Prelude.{◌≡◌, ℕ, ◌+◌, ◌/◌, ◌^◌, ◌%◌, ◌<◌, List, [], ◌∷◌, ◌++◌, length, map, ◌&&◌, if◌then◌else◌, Option, is_none, slice_index_or, All}
use Rattle.ats_tree.specs.Tree.{Tree, empty, leaf, node, tree_of, digest_of}
use Rattle.ats_tree.specs.Shown.{Shown, places}
use Rattle.ats_tree.specs.Rebuild.{is_bare}
use Rattle.ats_tree.specs.Elided.{shown_with}

-- the digests of all nodes in pre-order: a node, its left part, its right part
abbrev pub digests_of : (List ℕ → List ℕ) → Tree (List ℕ) → List (List ℕ)
digests_of H empty = []
digests_of H (leaf d) = digest_of H (leaf d) ∷ []
digests_of H (node l r) = digest_of H (node l r) ∷ (digests_of H l ++ digests_of H r)

-- the digests of all nodes of the tree of these byte strings
abbrev pub kept_digests : (List ℕ → List ℕ) → List (List ℕ) → List (List ℕ)
kept_digests H leaves = digests_of H (tree_of leaves)

-- how many nodes the tree has
abbrev pub nodes_in : {X : Type 0} → Tree X → ℕ
nodes_in empty = 0
nodes_in (leaf x) = 1
nodes_in (node l r) = 1 + nodes_in l + nodes_in r

-- Where the maximal subtrees with no shown leaf stand in pre-order, from left to right, if the root stands at `at`: the
-- left part of a node begins at the next place, and the right part after all nodes of the left one.
abbrev pub elided_places : ℕ → Tree (Option (List ℕ)) → List ℕ
elided_places at empty = []
elided_places at (leaf o) = if is_none o then at ∷ [] else []
elided_places at (node l r) =
    if is_bare l && is_bare r
    then at ∷ []
    else elided_places (at + 1) l ++ elided_places (at + 1 + nodes_in l) r

-- the digests at these places
abbrev pub digests_at : List (List ℕ) → List ℕ → List (List ℕ)
digests_at digests places = map (λ at. slice_index_or digests at []) places

-- of these digests, which begin with those of the nodes of the n places from position `from` on, those at the places of
-- the maximal subtrees with no shown leaf
abbrev pub elided_part : List (List ℕ) → ℕ → ℕ → List Shown → List (List ℕ)
elided_part digests from n shown = digests_at digests (elided_places 0 (tree_of (places from n shown)))

-- of the digests of 2n - 1 nodes those of the maximal subtrees of n leaves that hold none of these positions
abbrev pub elided_kept : List (List ℕ) → List ℕ → List (List ℕ)
elided_kept digests positions = elided_part digests 0 (length digests / 2 + 1) (shown_with [] positions)

-- digests of 32 bytes, in the number of the nodes of a tree of 1 to 2 ^ 31 leaves
pub record IsNodeList (digests : List (List ℕ)) : Type 0 where
  pub sized : All (λ d. length d ≡ 32) digests
  pub few : length digests < 2 ^ 32
  pub odd : length digests % 2 ≡ 1
