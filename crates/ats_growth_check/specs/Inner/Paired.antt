-- What the recursion that takes the digests of a growth leaves.
use Rattle.std.specs.Prelude.{◌≡◌, ℕ, List, take, drop, reverse, Bool}
use Rattle.ats_tree.specs.Paths.{Path}
use Rattle.ats_growth_check.specs.Pair.{roots}
use Rattle.ats_growth_check.specs.Shape.{need}

-- these are the roots that the first of the digests give along the turns, and the digests after them are left
pub record ArePaired (H : List ℕ → List ℕ) (root : List ℕ) (path : Path) (known : Bool) (digests : List (List ℕ))
    (old new : List ℕ) (left : List (List ℕ)) : Type 0 where
  pub old_root : old ≡ (roots H root path known (reverse (take (need path known) digests))).old
  pub new_root : new ≡ (roots H root path known (reverse (take (need path known) digests))).new
  pub rest : left ≡ drop (need path known) digests
