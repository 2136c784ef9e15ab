use Rattle.ats_lists.specs.Inner.Gathered.{AreSlotsOf}
use Rattle.ats_lists.proofs.numbering.make_space.Given as goal

abbrev pub invariant-loop-number : goal.invariant-loop-number
invariant-loop-number l = AreSlotsOf l.terms l.table.items
