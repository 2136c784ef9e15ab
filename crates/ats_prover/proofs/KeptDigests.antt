-- The positions whose leaves a tree has, counted by the digests of its nodes.
use Rattle.std.proofs.Common.{◌≡◌, ℕ, ◌+◌, ◌*◌, ◌<◌, ◌≤◌, List, length, ap, arith}
use Rattle.std.specs.List.{All}
use Rattle.ats_tree.specs.Kept.{kept_digests}
use Rattle.ats_tree.proofs.Public.{length-kept}

-- positions of leaves are those of the tree that has these nodes
pub kept_positions : (H : List ℕ → List ℕ) (leaves nodes : List (List ℕ)) (positions : List ℕ) → nodes ≡ kept_digests H leaves → All (λ p. p < length leaves) positions
    → All (λ p. 2 * p + 1 ≤ length nodes) positions
kept_positions H leaves nodes positions kept below k d inside =
    let low = below k d inside in
    omega (arith, low, length-kept H leaves (omega (arith, low)), ap (λ (ds : List (List ℕ)). length ds) kept)
