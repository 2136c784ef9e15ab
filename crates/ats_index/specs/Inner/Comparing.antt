-- Bytes that are compared with others, which are put piece by piece.
use Rattle.std.specs.Prelude.{◌≡◌, ℕ, Bool, true, false, List, ◌++◌, length, drop}
use Rattle.ats_index.specs.LoadFaults.{IsDifference}

-- false: no difference so far, the others are a prefix of the bytes, of length `same`; true: the first difference is at
-- `same`, whatever is put later
abbrev pub IsCompared : List ℕ → ℕ → Bool → List ℕ → Type 0
IsCompared bytes same false others = (same ≡ length others) × (bytes ≡ others ++ drop same bytes)
IsCompared bytes same true others = (more : List ℕ) → IsDifference bytes (others ++ more) same
