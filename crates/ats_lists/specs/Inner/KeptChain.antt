-- Beside specs/KeptChain: what only the functions of this room promise one another.
use Rattle.std.specs.Prelude.{◌≡◌, ℕ, ◌*◌, ◌/◌, ◌%◌, ◌≤◌, List, [], map, length, take, drop, All, slice_index_or}
use Rattle.ats_lists.specs.Blocks.{blocks_from}
use Rattle.ats_lists.specs.KeptChain.{ChainDigests}

-- The digests of block j, as they stand in one run: its own, then those of its tree's nodes. A block of 64 entries has 128.
abbrev pub digests_in : List (List ℕ) → ℕ → List (List ℕ)
digests_in run j = take 128 (drop (128 * j) run)

-- what such a run keeps
abbrev pub chain_in : List (List ℕ) → ChainDigests
chain_in run = record {
  entries = length run / 2;
  nodes = map (λ j. drop 1 (digests_in run j)) (blocks_from (length run / 2) 0);
  links = map (λ j. slice_index_or (digests_in run j) 0 []) (blocks_from (length run / 2) 0);
}

-- digests of 32 bytes, two for each of 1 to 65,536 entries
pub record IsChainRun (run : List (List ℕ)) : Type 0 where
  pub sized : All (λ d. length d ≡ 32) run
  pub some : 2 ≤ length run
  pub few : length run ≤ 131072
  pub even : length run % 2 ≡ 0
