-- How bytes are stored.
use Rattle.std.specs.Prelude.{◌≡◌, ℕ, List}
use Rattle.ats_plan.specs.Plan.{Plan, Stores}
use Rattle.ats_console.specs.declared.stops.Stop.{Stop}

-- the step that stores them, after which this line is printed
abbrev pub stores_with : (line name bytes : List ℕ) → Plan Stop
stores_with line name bytes = Stores name bytes (λ before now text. text ≡ line)
