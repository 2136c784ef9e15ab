-- What a writer keeps.
use Rattle.std.specs.Prelude.{◌≡◌, ◌≤◌, ◌<◌, ◌^◌, ℕ, List, length, Option, Some, None}

-- either all bytes are kept, or they are more than a file may have
abbrev pub IsKept : ℕ → Option (List ℕ) → Type 0
IsKept asked None = 2 ^ 28 < asked
IsKept asked (Some bytes) = (asked ≤ 2 ^ 28) × (length bytes ≡ asked)
