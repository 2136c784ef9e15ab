-- Beside specs/Written: what only the functions of this room promise one another.
use Rattle.std.specs.Prelude.{◌≡◌, ◌≤◌, ◌<◌, ℕ, List, length, Option, Some, None}

-- either all bytes are kept, or more than the limit were appended
abbrev pub Holds : ℕ → ℕ → Option (List ℕ) → Type 0
Holds limit asked None = limit < asked
Holds limit asked (Some bytes) = (asked ≤ limit) × (length bytes ≡ asked)
