-- The digests of a list in blocks, as they are kept.
use Rattle.std.specs.Prelude.{ℕ, List, map, length}
use Rattle.ats_tree.specs.Kept.{kept_digests}
use Rattle.ats_lists.specs.Blocks.{block, blocks_from}
use Rattle.ats_lists.specs.Chain.{chain_from}

-- how many entries a list has, and for each block the digests of all nodes of its tree, and its own digest
pub record ChainDigests : Type 0 where
  pub entries : ℕ
  pub nodes : List (List (List ℕ))
  pub links : List (List ℕ)

-- those of a list of byte strings
abbrev pub kept_chain : (List ℕ → List ℕ) → List (List ℕ) → ChainDigests
kept_chain H leaves = record {
  entries = length leaves;
  nodes = map (λ j. kept_digests H (block leaves j)) (blocks_from (length leaves) 0);
  links = map (chain_from H leaves) (blocks_from (length leaves) 0);
}
