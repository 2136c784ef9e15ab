-- Why the audit of a catalog's answer does not begin.
use Rattle.std.specs.Prelude.{◌≡◌, ◌⊎◌, ℕ, List}
use Rattle.ats_console.specs.declared.stops.Stop.{Stop}
use Rattle.ats_console.specs.declared.stops.Stop.TheVariants.{Memory}
use Rattle.ats_auditors.specs.Commands.{RejectsShape}

-- memory ran out, or the bytes spell no proof of a catalog's answer
abbrev pub IsBeginStop : (bytes : List ℕ) → Stop → Type 0
IsBeginStop bytes stop = (stop ≡ Memory) ⊎ RejectsShape bytes stop
