-- What rebuilding the shown blocks of a list gives, and what it leaves.
use Rattle.std.specs.Prelude.{◌≡◌, ℕ, ◌≤◌, List, [], length, map, drop}
use Rattle.ats_tree.specs.Shown.{Shown}
use Rattle.ats_lists.specs.Blocks.{blocks_from}
use Rattle.ats_lists.specs.ChainPrefix.{block_need, block_root}

-- these are the roots of the blocks of which some leaf is shown, of a list of f leaves; the leaves and the digests that
-- they need are taken
pub record AreBlockRoots (H : List ℕ → List ℕ) (f : ℕ) (shown : List Shown) (digests : List (List ℕ)) (roots : List (List ℕ))
    (shown' : List Shown) (digests' : List (List ℕ)) : Type 0 where
  pub enough : block_need f shown ≤ length digests
  pub value : roots ≡ map (block_root H f shown digests) (blocks_from (length shown) 0)
  pub leaves_left : shown' ≡ []
  pub digests_left : digests' ≡ drop (block_need f shown) digests
