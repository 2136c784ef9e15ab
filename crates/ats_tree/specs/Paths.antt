-- Paths from the root of a tree to a node, and their numbers.
use Rattle.std.specs.Prelude.{ℕ, zero, suc, ◌+◌, ◌^◌, List, [], ◌∷◌, length, Bool, nat_eq, if◌then◌else◌}
use Rattle.std.specs.Int.{bit_at}

-- the turns from the root to a node: false for left, true for right
abbrev pub Path : Type 0
Path = List Bool

-- the path of `depth` turns: the lowest binary digits of the number `turns`, highest first
abbrev pub path_of : ℕ → ℕ → Path
path_of zero turns = []
path_of (suc depth) turns = nat_eq (bit_at turns depth) 1 ∷ path_of depth turns

-- the number with these binary digits, highest first
abbrev pub number_of : Path → ℕ
number_of [] = 0
number_of (turn ∷ path) = (if turn then 2 ^ length path else 0) + number_of path
