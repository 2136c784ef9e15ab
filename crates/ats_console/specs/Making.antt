-- The honest proof that a command makes, which may be longer than a proof may be.
use Rattle.std.specs.Prelude.{◌≡◌, ◌≤◌, ◌^◌, ℕ, List, length}
use Rattle.ats_commit.specs.Archive.{Archive}
use Rattle.ats_proof.specs.declared.record.Algorithm.{Algorithm}
use Rattle.ats_honest.specs.Honest.{IsProved, IsTooLong}
use Rattle.ats_console.specs.Stops.{line_of_long_proof}
use Rattle.ats_console.specs.declared.stops.Stop.{Stop}
use Rattle.ats_console.specs.declared.stops.Stop.TheVariants.{Input}

-- the bytes are the honest proof of the query over the archive, and at most as long as a proof may be
pub record IsMade (H : List ℕ → List ℕ) (archive : Archive) (query : List (List ℕ × ℕ)) (r : ℕ)
    (algorithm : Algorithm) (bytes : List ℕ) : Type 0 where
  pub proved : IsProved H archive query r algorithm bytes
  pub short : length bytes ≤ 2 ^ 26

-- no honest proof has more bytes
abbrev pub IsNotTooLong : (List ℕ → List ℕ) → Archive → List (List ℕ × ℕ) → (r : ℕ) → Algorithm → Type 0
IsNotTooLong H archive query r algorithm = (bytes : ℕ) → IsTooLong H archive query r algorithm (2 ^ 26) bytes → ⊥

-- the honest proof has more bytes, and the line says how many
abbrev pub IsUnmade : (List ℕ → List ℕ) → Archive → List (List ℕ × ℕ) → (r : ℕ) → Algorithm → Stop → Type 0
IsUnmade H archive query r algorithm stop = (bytes : ℕ)
    × IsTooLong H archive query r algorithm (2 ^ 26) bytes × (stop ≡ Input (line_of_long_proof bytes))
