-- Beside specs/Feeding: what only the functions of this room promise one another.
use Rattle.std.specs.Prelude.{ℕ, List, Result, Ok, Err}
use Rattle.ats_base.specs.Links.{LinkTold}
use Rattle.ats_wire.specs.Asking.{Says}
use Rattle.ats_wire.specs.declared.asking.AskFault.{AskFault}
use Rattle.ats_wire.specs.declared.feeding.Fed.{Fed}
use Rattle.ats_wire.specs.Feeding.{IsFed}

-- what was read: either a whole reply with bytes that have this verdict, or a fault
abbrev pub SaysFed : LinkTold → List ℕ → Result Fed AskFault → Type 0
SaysFed now read (Ok fed) = (bytes : List ℕ) × Says now read (Ok bytes) × IsFed fed bytes
SaysFed now read (Err fault) = Says now read (Err fault)
