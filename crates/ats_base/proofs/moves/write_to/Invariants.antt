use Rattle.std.proofs.Common.{length, [], ◌+◌, ◌-◌, ◌≡◌, ◌≤◌, take}
use Rattle.ats_base.specs.Links.{Exchanged}
use Rattle.ats_base.proofs.moves.write_to.Given as goal

-- the bytes before `done` were taken
abbrev pub invariant-writes : goal.invariant-writes
invariant-writes g l = record {
  few : l.done ≤ length l.bytes;
  written : Exchanged (g.W.Writing.told l.fn.object).traffic (g.W.Writing.told l.object).traffic [] (take l.done l.bytes);
  turns : (g.W.Writing.told l.object).calls ≤ (g.W.Writing.told l.fn.object).calls + l.done;
  none : l.bytes ≡ [] → l.object ≡ l.fn.object;
  same : (g.W.Writing.told l.object).faults ≡ (g.W.Writing.told l.fn.object).faults;
}

abbrev pub decreases-writes : goal.decreases-writes
decreases-writes g l = length l.bytes - l.done
