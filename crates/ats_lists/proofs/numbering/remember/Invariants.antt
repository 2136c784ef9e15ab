use Rattle.std.proofs.Common.{◌≡◌, ◌⊎◌}
use Rattle.ats_lists.specs.Inner.Gathered.{AreSlotsOf, IsSlotOf}
use Rattle.ats_lists.proofs.numbering.remember.Given as goal

-- what moves to the next slot is as a slot should be
abbrev pub invariant-loop-way : goal.invariant-loop-way
invariant-loop-way l = record {
  slots : AreSlotsOf l.terms l.table.items;
  newer : (l.newer.size ≡ 0) ⊎ IsSlotOf l.terms l.newer;
}
