-- Lists cut into blocks of 64.
use Rattle.std.specs.Prelude.{ℕ, ◌+◌, ◌-◌, ◌*◌, ◌/◌, List, take, drop, min}
use Rattle.std.specs.List.{range_with_len}

-- how many blocks n items fill
abbrev pub blocks_in : ℕ → ℕ
blocks_in n = (n + 63) / 64

-- how many of n items are in block j
abbrev pub items_in : ℕ → ℕ → ℕ
items_in n j = min 64 (n - 64 * j)

-- block j: the items from 64 j on, at most 64
abbrev pub block : {X : Type 0} → List X → ℕ → List X
block items j = take 64 (drop (64 * j) items)

-- the numbers of the blocks of n items, from number j on
abbrev pub blocks_from : ℕ → ℕ → List ℕ
blocks_from n j = range_with_len j (blocks_in n - j)
