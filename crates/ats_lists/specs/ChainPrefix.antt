-- What the first leaves of a list in blocks give: its digest, with the digests of the rest, and the strings that are
-- hashed for it. The leaves that are shown have the positions 0, 1, 2 and so on.
use Rattle.std.specs.Prelude.{ℕ, ◌+◌, ◌-◌, ◌*◌, List, [], ◌∷◌, map, length, Bool, ◌&&◌, nat_eq, nat_le, nat_lt, if◌then◌else◌, slice_index_or, Option, Some, None}
use Rattle.std.specs.List.{flat_map}
use Rattle.ats_tree.specs.Tree.{Tree, tree_of}
use Rattle.ats_tree.specs.Shown.{Shown, places}
use Rattle.ats_tree.specs.Rebuild.{need, digest_with}
use Rattle.ats_tree.specs.Nodes.{NodeNumbers}
use Rattle.ats_tree.specs.Paths.{number_of}
use Rattle.ats_tree.specs.Strings.{strings}
use Rattle.ats_tree.specs.Differences.{Hashed, moved}
use Rattle.ats_lists.specs.Blocks.{blocks_in, items_in, blocks_from}
use Rattle.ats_lists.specs.Chain.{link, no_block, chain_digest}

-- the tree of the places of block j, of a list of f leaves
abbrev pub block_tree : ℕ → List Shown → ℕ → Tree (Option (List ℕ))
block_tree f shown j = tree_of (places (64 * j) (items_in f j) shown)

-- the last block of which some leaf is shown
abbrev pub last_shown : List Shown → ℕ
last_shown shown = blocks_in (length shown) - 1

-- how many digests that block's tree needs; the blocks before it need none
abbrev pub block_need : ℕ → List Shown → ℕ
block_need f shown = need (block_tree f shown (last_shown shown))

-- some block comes after it
abbrev pub has_next : ℕ → List Shown → Bool
has_next f shown = nat_lt (64 * blocks_in (length shown)) f

-- how many digests the shown leaves need
abbrev pub chain_need : ℕ → List Shown → ℕ
chain_need f shown = block_need f shown + (if has_next f shown then 1 else 0)

-- the root of the tree of block j
abbrev pub block_root : (List ℕ → List ℕ) → ℕ → List Shown → List (List ℕ) → ℕ → List ℕ
block_root H f shown digests j = digest_with H (block_tree f shown j) digests

-- the digest of the block after the shown ones
abbrev pub next_digest : ℕ → List Shown → List (List ℕ) → List ℕ
next_digest f shown digests =
    if has_next f shown then slice_index_or digests (block_need f shown) [] else no_block

-- the digest of shown block j
abbrev pub shown_from : (List ℕ → List ℕ) → ℕ → List Shown → List (List ℕ) → ℕ → List ℕ
shown_from H f shown digests j =
    chain_digest H (map (block_root H f shown digests) (blocks_from (length shown) j)) (next_digest f shown digests)

-- the digest of the list of f leaves, if at least one and at most f are shown, and there are exactly the digests that
-- they need
abbrev pub chain_rebuilt : (List ℕ → List ℕ) → ℕ → List Shown → List (List ℕ) → Option (List ℕ)
chain_rebuilt H f shown digests =
    if nat_le 1 (length shown) && nat_le (length shown) f && nat_eq (length digests) (chain_need f shown)
    then Some (shown_from H f shown digests 0)
    else None

-- the strings of the tree of block j, with their numbers in the list
abbrev pub tree_strings : (List ℕ → List ℕ) → ℕ → List Shown → List (List ℕ) → ℕ → List (Hashed NodeNumbers)
tree_strings H f shown digests j =
    map (moved (λ path. record { depth = 1 + length path; turns = 64 * j + number_of path })) (strings H (block_tree f shown j) digests)

-- the string of block j, then those of its tree
abbrev pub block_strings : (List ℕ → List ℕ) → ℕ → List Shown → List (List ℕ) → ℕ → List (Hashed NodeNumbers)
block_strings H f shown digests j =
    record {
      place = record { depth = 0; turns = 64 * j };
      text = link (block_root H f shown digests j) (shown_from H f shown digests (j + 1));
    }
    ∷ tree_strings H f shown digests j

-- the strings that are hashed for the digest, in their order: block by block
abbrev pub chain_strings : (List ℕ → List ℕ) → ℕ → List Shown → List (List ℕ) → List (Hashed NodeNumbers)
chain_strings H f shown digests =
    flat_map (block_strings H f shown digests) (blocks_from (length shown) 0)
