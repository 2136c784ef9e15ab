-- Beside specs/OwnShown: what only the functions of this room promise one another.
use Rattle.std.specs.Prelude.{◌≡◌, ℕ, ◌+◌, ◌<◌, List, length, take, Some, All, slice_get}
use Rattle.ats_tree.specs.Shown.{Shown}
use Rattle.ats_tree.specs.Kept.{elided_part}

-- The same of the n leaves from position `from` on, whose nodes have the first of `nodes`: later leaves and digests may
-- follow.
pub record IsOwnPart (leaves nodes : List (List ℕ)) (from n : ℕ) (shown : List Shown) (digests : List (List ℕ)) : Type 0 where
  pub own : All (λ s. s.0 < from + n → slice_get leaves s.0 ≡ Some s.1) shown
  pub needed : take (length (elided_part nodes from n shown)) digests ≡ elided_part nodes from n shown
