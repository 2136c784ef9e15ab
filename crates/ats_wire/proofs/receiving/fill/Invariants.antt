use Rattle.std.proofs.Common.{false, ℕ, get_or, ◌<◌, length, [], ◌-◌, ◌≤◌, take}
use Rattle.ats_wire.specs.Moving.{Moves}
use Rattle.ats_wire.proofs.receiving.fill.Given as goal

-- the buffer holds what was read, before `done`
abbrev pub invariant-reads : goal.invariant-reads
invariant-reads g l = record {
  few : l.done ≤ length l.buf;
  small : (i : ℕ) → get_or l.buf i 0 < 256;
  moved : Moves (g.L.Link.told l.fn.link) (g.L.Link.told l.link) (take l.done l.buf) [] 0 false;
}

abbrev pub decreases-reads : goal.decreases-reads
decreases-reads g l = length l.buf - l.done
