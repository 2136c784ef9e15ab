use Rattle.std.proofs.Common.{◌≤◌, ◌-◌}
use Rattle.ats_index.proofs.parallel.middle_of.Given as goal

-- the place is still between them
abbrev pub invariant-loop-low : goal.invariant-loop-low
invariant-loop-low l = record {
  low : l.first ≤ l.low;
  order : l.low ≤ l.high;
  high : l.high ≤ l.end;
}

abbrev pub decreases-loop-low : goal.decreases-loop-low
decreases-loop-low l = l.high - l.low
