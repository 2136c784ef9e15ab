-- Shown leaves with their positions, and the places of a tree that they fill.
use Rattle.std.specs.Prelude.{ℕ, zero, suc, ◌+◌, List, [], ◌∷◌, map, nat_eq, if◌then◌else◌, Option, Some, None}

-- a shown leaf: its position, then its bytes
abbrev pub Shown : Type 0
Shown = ℕ × List ℕ

-- the positions of shown leaves
abbrev pub positions_of : List Shown → List ℕ
positions_of shown = map (λ s. s.0) shown

-- the position of the first leaf that is shown
abbrev pub first_position : List Shown → Option ℕ
first_position [] = None
first_position (s ∷ rest) = Some s.0

-- the bytes of the first leaf that is shown
abbrev pub first_leaf : List Shown → List ℕ
first_leaf [] = []
first_leaf (s ∷ rest) = s.1

-- the leaf that is shown at position i
abbrev pub shown_at : List Shown → ℕ → Option (List ℕ)
shown_at [] i = None
shown_at (s ∷ rest) i = if nat_eq s.0 i then Some s.1 else shown_at rest i

-- the n places from position `from` on: a shown leaf at its position and nothing elsewhere
abbrev pub places : ℕ → ℕ → List Shown → List (Option (List ℕ))
places from zero shown = []
places from (suc n) shown = shown_at shown from ∷ places (from + 1) n shown
