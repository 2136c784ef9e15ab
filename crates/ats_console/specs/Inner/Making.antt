-- Beside specs/Making: what only the functions of this room promise one another.
use Rattle.std.specs.Prelude.{◌≡◌, ◌⊎◌, ℕ, List}
use Rattle.ats_commit.specs.Archive.{Archive}
use Rattle.ats_proof.specs.declared.record.Algorithm.{Algorithm}
use Rattle.ats_console.specs.declared.stops.Stop.{Stop}
use Rattle.ats_console.specs.declared.stops.Stop.TheVariants.{Memory}
use Rattle.ats_console.specs.Making.{IsUnmade}

-- why it is not made: memory ran out, or it is too long
abbrev pub MakingStop : (List ℕ → List ℕ) → Archive → List (List ℕ × ℕ) → (r : ℕ) → Algorithm → Stop → Type 0
MakingStop H archive query r algorithm stop = (stop ≡ Memory) ⊎ IsUnmade H archive query r algorithm stop
