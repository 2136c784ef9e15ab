use Rattle.std.proofs.Common.{false, [], length, ◌-◌, ◌≤◌}
use Rattle.ats_wire.specs.Moving.{Moves}
use Rattle.ats_wire.proofs.asking.read_rest.Given as goal

-- these bytes were read
abbrev pub invariant-pieces : goal.invariant-pieces
invariant-pieces g l = record {
  few : length l.bytes ≤ l.size;
  moved : Moves (g.L.Link.told l.fn.link) (g.L.Link.told l.link) l.bytes [] 0 false;
}

abbrev pub decreases-pieces : goal.decreases-pieces
decreases-pieces g l = l.size - length l.bytes
