use Rattle.std.proofs.Common.{◌≤◌, length, take}
use Rattle.ats_bound.specs.Cursors.{shown_on}
use Rattle.ats_bound.specs.Inner.Running.{count_above}
use Rattle.ats_bound.proofs.unshown.how_many_above.Given as goal

abbrev pub invariant-loop-slot : goal.invariant-loop-slot
invariant-loop-slot l = record {
  few : l.count ≤ l.slot-index;
  inside : l.next ≤ length l.known;
  counted : l.count ≤ count_above l.score (shown_on l.cursors) (take l.next l.known);
}
