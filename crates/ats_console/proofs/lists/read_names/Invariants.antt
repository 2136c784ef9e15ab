use Rattle.std.proofs.Common.{length}
use Rattle.ats_console.specs.Names.{SpellsName}
use Rattle.ats_console.proofs.ListReading.{AreRead}
use Rattle.ats_console.proofs.lists.read_names.Given as goal

-- the lines so far were read
abbrev pub invariant-lines : goal.invariant-lines
invariant-lines l = AreRead SpellsName l.bytes l.rest l.names.items

abbrev pub decreases-lines : goal.decreases-lines
decreases-lines l = length l.rest
