-- When what is shown of a tree is the tree's own.
use Rattle.std.specs.Prelude.{◌≡◌, ℕ, ◌≤◌, List, length, Some, All, slice_get}
use Rattle.ats_tree.specs.Shown.{Shown, positions_of}
use Rattle.ats_tree.specs.Elided.{elided_digests}

-- The tree has n leaves, at least one. Each shown leaf is the tree's own at its position, and the digests are those of the
-- maximal subtrees with no shown leaf.
pub record IsOwnShown (H : List ℕ → List ℕ) (leaves : List (List ℕ)) (n : ℕ) (shown : List Shown) (digests : List (List ℕ)) : Type 0 where
  pub some : 1 ≤ n
  pub number : length leaves ≡ n
  pub own : All (λ s. slice_get leaves s.0 ≡ Some s.1) shown
  pub needed : digests ≡ elided_digests H leaves (positions_of shown)
