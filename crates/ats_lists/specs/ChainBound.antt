-- What a rebuilt digest of a list in blocks says of each list with that digest, and what rebuilding it takes.
use Rattle.std.specs.Prelude.{◌≡◌, ℕ, List, length, Option, Some, MatchOption, All, slice_get}
use Rattle.std.specs.List.{sum_by}
use Rattle.ats_tree.specs.Shown.{Shown}
use Rattle.ats_tree.specs.Rebuild.{inner_nodes}
use Rattle.ats_tree.specs.Nodes.{NodeNumbers}
use Rattle.ats_tree.specs.Differences.{Difference, first_difference}
use Rattle.ats_lists.specs.Blocks.{blocks_from}
use Rattle.ats_lists.specs.Chain.{chain_string}
use Rattle.ats_lists.specs.ChainPrefix.{block_tree, chain_strings}

-- the first string that is hashed for the digest and that differs from the string there of the list of `leaves`
abbrev pub chain_difference : (List ℕ → List ℕ) → ℕ → List Shown → List (List ℕ) → List (List ℕ) → Option (Difference NodeNumbers)
chain_difference H f shown digests leaves =
    first_difference (λ at. chain_string H leaves at.depth at.turns) (chain_strings H f shown digests)

-- each shown leaf is the leaf of `leaves` at its position, or else the first string that differs from the list of
-- `leaves` has the digest of the string there
abbrev pub IsChainBoundTo : (List ℕ → List ℕ) → ℕ → List Shown → List (List ℕ) → List (List ℕ) → Type 0
IsChainBoundTo H f shown digests leaves =
    MatchOption (chain_difference H f shown digests leaves)
    (All (λ s. slice_get leaves s.0 ≡ Some s.1) shown)
    (λ c. H c.theirs ≡ H c.ours)

-- how many nodes with two parts rebuilding hashes, in all shown blocks
abbrev pub chain_inner_nodes : ℕ → List Shown → ℕ
chain_inner_nodes f shown = sum_by (λ j. inner_nodes (block_tree f shown j)) (blocks_from (length shown) 0)
