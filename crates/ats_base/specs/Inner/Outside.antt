-- Beside specs/Outside: what only the functions of this room promise one another.
use Rattle.std.specs.Prelude.{◌≡◌, ◌≤◌, ℕ, List, [], length, take, Option, Some, None}

-- if the shelf reports its files, these bytes are the front of the named one; nothing was read of a missing one
abbrev pub SoFarIn : Option (List ℕ) → List ℕ → Type 0
SoFarIn None bytes = bytes ≡ []
SoFarIn (Some file) bytes = (bytes ≡ take (length bytes) file) × (length bytes ≤ length file)

abbrev pub SoFar : Option (List ℕ → Option (List ℕ)) → List ℕ → List ℕ → Type 0
SoFar None name bytes = Unit {0}
SoFar (Some files) name bytes = SoFarIn (files name) bytes
