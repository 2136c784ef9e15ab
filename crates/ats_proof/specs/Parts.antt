-- Numbers as bytes, and like parts one after another in bytes.
use Rattle.std.specs.Prelude.{ℕ, zero, suc, ◌+◌, List, [], ◌∷◌, length, take, drop}
use Rattle.std.specs.List.{flat_map}
use Rattle.ats_grammar.specs.Table.{number}
pub use Rattle.ats_grammar.specs.Table.{spelled, AreBytes}

-- the value of the first `size` bytes
abbrev pub number_in : ℕ → List ℕ → ℕ
number_in size bytes = number (take size bytes)

-- the next parts; the size of each is read from its own bytes
abbrev pub parts_in : {X : Type 0} → (List ℕ → ℕ) → (List ℕ → X) → ℕ → List ℕ → List X
parts_in size read zero bytes = []
parts_in size read (suc n) bytes = read bytes ∷ parts_in size read n (drop (size bytes) bytes)

-- how many bytes the next parts have
abbrev pub total_size : (List ℕ → ℕ) → ℕ → List ℕ → ℕ
total_size size zero bytes = 0
total_size size (suc n) bytes = size bytes + total_size size n (drop (size bytes) bytes)

-- the parts after their number, which has `width` bytes; and how many bytes the number and the parts have
abbrev pub counted_in : {X : Type 0} → ℕ → (List ℕ → ℕ) → (List ℕ → X) → List ℕ → List X
counted_in width size read bytes = parts_in size read (number_in width bytes) (drop width bytes)

abbrev pub counted_size : ℕ → (List ℕ → ℕ) → List ℕ → ℕ
counted_size width size bytes = width + total_size size (number_in width bytes) (drop width bytes)

-- the fields of parts, after the field of their number
abbrev pub counted : {X : Type 0} → ℕ → (X → List (List ℕ)) → List X → List (List ℕ)
counted width spell xs = spelled width (length xs) ∷ flat_map spell xs
