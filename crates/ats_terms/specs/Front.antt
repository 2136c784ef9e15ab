-- The first bytes of a term as a number.
use Rattle.std.specs.Prelude.{◌<◌, ◌+◌, ◌*◌, ℕ, zero, suc, List, slice_index}

-- each element is a byte
abbrev pub AreBytes : List ℕ → Type 0
AreBytes term = (i : ℕ) → slice_index term i < 256

-- the first n bytes as a number, high byte first, padded with zeros
unfoldable pub front : ℕ → List ℕ → ℕ
front zero term = 0
front (suc n) term = front n term * 256 + slice_index term n
