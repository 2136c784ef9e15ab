-- Shown leaves of a tree are those at their positions, and rebuild to its root with what the tree needs besides.
use Rattle.std.proofs.Common.{◌≡◌, ◌<◌, ◌≤◌, ℕ, List, [], ◌∷◌, length, map, get_or, Some, refl, ap₂}
use Rattle.std.specs.List.{All}
use Rattle.std.specs.List.Sorted.{IsStrictlyIncreasing}
use Rattle.std.proofs.lemmas.List.Elements.{All-head, All-tail}
use Rattle.ats_tree.specs.Tree.{mth}
use Rattle.ats_tree.specs.Shown.{Shown}
use Rattle.ats_tree.specs.Rebuild.{rebuilt}
use Rattle.ats_tree.specs.Elided.{elided_digests, shown_with}
use Rattle.ats_tree.proofs.Public.{within-increasing, elided-rebuilds}

-- what is shown at each position is the leaf there
abbrev pub AreLeaves : List (List ℕ) → (ℕ → Shown) → Type 0
AreLeaves leaves made = (p : ℕ) → p < length leaves → ◌≡◌ {A = Shown} (made p) (p, get_or leaves p [])

pub leaves_shown : (leaves : List (List ℕ)) (made : ℕ → Shown) (positions : List ℕ) → AreLeaves leaves made → All (λ p. p < length leaves) positions
    → map made positions ≡ shown_with leaves positions
leaves_shown leaves made [] are below = refl
leaves_shown leaves made (p ∷ ps) are below =
    ap₂ (λ (x : Shown) (xs : List Shown). x ∷ xs) (are p (All-head (λ q. q < length leaves) p ps below))
    (leaves_shown leaves made ps are (All-tail (λ q. q < length leaves) p ps below))

pub positions_rebuild : (H : List ℕ → List ℕ) (leaves : List (List ℕ)) (positions : List ℕ) → 1 ≤ length leaves
    → IsStrictlyIncreasing positions → All (λ p. p < length leaves) positions
    → rebuilt H (length leaves) (shown_with leaves positions) (elided_digests H leaves positions) ≡ Some (mth H leaves)
positions_rebuild H leaves positions some rise below = elided-rebuilds H leaves positions some (within-increasing (length leaves) positions rise below)
