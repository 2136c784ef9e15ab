-- Which commands use links.
use Rattle.ats_console.specs.Words.{Command, Ask, Serve}

-- after its plan, the command goes on over links
abbrev pub UsesLinks : Command → Type 0
UsesLinks (Ask words) = Unit {0}
UsesLinks (Serve words) = Unit {0}
UsesLinks _ = ⊥
