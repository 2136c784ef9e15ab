use Rattle.std.proofs.Common.{ℕ, ◌+◌, ◌<◌, ◌≤◌}
use Rattle.ats_bound.specs.Settled.{row}
use Rattle.ats_bound.proofs.settling.rows_fall.Given as goal

abbrev pub invariant-loop-k : goal.invariant-loop-k
invariant-loop-k l = (j : ℕ) → j + 1 < l.k → (row l.brackets l.picks (j + 1)).hi ≤ (row l.brackets l.picks j).lo
