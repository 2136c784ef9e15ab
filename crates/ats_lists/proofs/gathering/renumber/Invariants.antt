use Rattle.ats_lists.specs.Inner.Gathered.{AreNewNumbers}
use Rattle.ats_lists.proofs.gathering.renumber.Given as goal

-- the other run's terms so far have their numbers
abbrev pub invariant-loop-i : goal.invariant-loop-i
invariant-loop-i l = AreNewNumbers l.initial.numbering l.others l.numbering l.i l.numbers.items
