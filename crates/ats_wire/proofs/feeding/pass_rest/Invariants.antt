use Rattle.std.proofs.Common.{false, ◌≡◌, ◌≤◌, ℕ, ◌+◌, ◌-◌, List, [], length}
use Rattle.ats_wire.specs.Moving.{Moves}
use Rattle.ats_wire.proofs.feeding.pass_rest.Given as goal

-- this many more bytes were read
abbrev pub invariant-pieces : goal.invariant-pieces
invariant-pieces g l = (l.done ≤ l.size) × ((came : List ℕ) × (l.fn.read + length came ≡ l.done) × Moves (g.L.Link.told l.fn.link) (g.L.Link.told l.link) came [] 0 false)

abbrev pub decreases-pieces : goal.decreases-pieces
decreases-pieces g l = l.size - l.done
