use Rattle.std.proofs.Common.{false, ◌≡◌, ◌≤◌, ◌-◌, [], length}
use Rattle.ats_grammar.specs.Feeding.{StandsFor}
use Rattle.ats_wire.specs.Moving.{Moves}
use Rattle.ats_wire.proofs.feeding.read_proof.Given as goal

-- these bytes were read, and fed to the feeder
abbrev pub invariant-pieces : goal.invariant-pieces
invariant-pieces g l = record {
  few : length l.bytes ≤ l.size;
  moved : Moves (g.L.Link.told l.fn.link) (g.L.Link.told l.link) l.bytes [] 0 false;
  all : l.feeder.length ≡ l.size;
  fed : l.feeder.fed ≡ length l.bytes;
  stands : StandsFor l.feeder l.bytes;
}

abbrev pub decreases-pieces : goal.decreases-pieces
decreases-pieces g l = l.size - length l.bytes
