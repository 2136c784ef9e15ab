-- Why no file is made for others to check, as the function that makes it returns it.
use Rattle.std.specs.Prelude.{◌≡◌, ◌⊎◌}
use Rattle.ats_console.specs.declared.stops.Stop.{Stop}
use Rattle.ats_console.specs.declared.stops.Stop.TheVariants.{Memory}

-- memory ran out, or this is why
abbrev pub OrMemory : (why : Stop → Type 0) → Stop → Type 0
OrMemory why stop = (stop ≡ Memory) ⊎ why stop
