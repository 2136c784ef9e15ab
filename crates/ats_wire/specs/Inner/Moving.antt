-- Beside specs/Moving: what only the functions of this room promise one another.
use Rattle.std.specs.Prelude.{◌<◌, ℕ, true, false, List, [], length, take}
use Rattle.ats_base.specs.Links.{LinkTold, IsAtEnd}
use Rattle.ats_wire.specs.declared.receiving.Filling.{Filling}
use Rattle.ats_wire.specs.declared.receiving.Filling.TheVariants.{Whole, Ended, Broken}
use Rattle.ats_wire.specs.Moving.{Moves}

-- how a buffer was filled from a link: to its end, to the end of the input, or up to a fault
abbrev pub Fills : LinkTold → LinkTold → List ℕ → Filling → Type 0
Fills before now buf Whole = Moves before now buf [] 0 false
Fills before now buf (Ended came) = (came < length buf) × IsAtEnd now.traffic × Moves before now (take came buf) [] 1 false
Fills before now buf Broken = (came : ℕ) × (came < length buf)
    × Moves before now (take came buf) [] 1 true

-- a fault cut off the sending of these bytes: only the first n of them were sent
abbrev pub IsCutOff : LinkTold → LinkTold → List ℕ → Type 0
IsCutOff before now bytes = (n : ℕ) × (n < length bytes)
    × Moves before now [] (take n bytes) 1 true
