-- Lists of byte strings as chains of blocks: their digest, and the strings that are hashed for it. The string of a block
-- contains the root of the block's tree and the digest of the next block.
use Rattle.std.specs.Prelude.{◌≡◌, ◌≤◌, ℕ, zero, suc, ◌+◌, ◌-◌, ◌*◌, ◌/◌, ◌%◌, ◌^◌, List, [], ◌∷◌, ◌++◌, map, length, replicate, nat_eq, nat_lt, if◌then◌else◌, Option, Some, None}
use Rattle.std.specs.List.{range_with_len}
use Rattle.ats_tree.specs.Tree.{mth, tree_of}
use Rattle.ats_tree.specs.Paths.{Path, path_of, number_of}
use Rattle.ats_tree.specs.Strings.{string_at}
use Rattle.ats_tree.specs.Elided.{elided_digests}
use Rattle.ats_lists.specs.Blocks.{blocks_in, block, blocks_from}

-- the string of a block with this root, if `next` is the digest of the next block
abbrev pub link : List ℕ → List ℕ → List ℕ
link root next = 3 ∷ root ++ next

-- what the last block has in place of the digest of a next one
abbrev pub no_block : List ℕ
no_block = replicate 32 0

-- the digest of the first of some blocks with these roots, if `next` is the digest after the last of them
abbrev pub chain_digest : (List ℕ → List ℕ) → List (List ℕ) → List ℕ → List ℕ
chain_digest H [] next = next
chain_digest H (root ∷ roots) next = H (link root (chain_digest H roots next))

-- the digest of block j of a list
abbrev pub chain_from : (List ℕ → List ℕ) → List (List ℕ) → ℕ → List ℕ
chain_from H leaves j = chain_digest H (map (λ i. mth H (block leaves i)) (blocks_from (length leaves) j)) no_block

-- the digest of a list: that of its first block
abbrev pub chain : (List ℕ → List ℕ) → List (List ℕ) → List ℕ
chain H leaves = chain_from H leaves 0

-- the string of block j of a list, if it has one
abbrev pub chain_link : (List ℕ → List ℕ) → List (List ℕ) → ℕ → Option (List ℕ)
chain_link H leaves j =
    if nat_lt j (blocks_in (length leaves))
    then Some (link (mth H (block leaves j)) (chain_from H leaves (j + 1)))
    else None

-- The string with these two numbers, if there is one. Block j has its own string at depth 0 and turns 64 j. The node of
-- its tree with depth d and turns p has depth 1 + d and turns 64 j + p; p is below 64, since a block has at most 64
-- leaves.
abbrev pub chain_string : (List ℕ → List ℕ) → List (List ℕ) → ℕ → ℕ → Option (List ℕ)
chain_string H leaves zero turns = if nat_eq (turns % 64) 0 then chain_link H leaves (turns / 64) else None
chain_string H leaves (suc depth) turns =
    if nat_lt (turns % 64) (2 ^ depth)
    then string_at H (tree_of (block leaves (turns / 64))) (path_of depth (turns % 64))
    else None

-- these are the numbers of the string of block j, or of one of the nodes that its tree can have
abbrev pub IsAtBlock : ℕ → ℕ → ℕ → Type 0
IsAtBlock j zero turns = turns ≡ 64 * j
IsAtBlock j (suc depth) turns = (path : Path) × (length path ≡ depth) × (depth ≤ 6) × (turns ≡ 64 * j + number_of path)

-- the digests that the first `count` leaves of a list need: those of the last block of which some leaf is shown, and
-- that of the next block, if there is one
abbrev pub chain_elided : (List ℕ → List ℕ) → List (List ℕ) → ℕ → List (List ℕ)
chain_elided H leaves count =
    elided_digests H (block leaves (blocks_in count - 1)) (range_with_len 0 (count - 64 * (blocks_in count - 1)))
    ++ (if nat_lt (64 * blocks_in count) (length leaves) then chain_from H leaves (blocks_in count) ∷ [] else [])
