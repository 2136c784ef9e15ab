use Rattle.std.proofs.Common.{ℕ, ◌<◌, ◌≤◌}
use Rattle.ats_bound.specs.Floors.{span_at}
use Rattle.ats_bound.proofs.unshown.most_from.Given as goal

abbrev pub invariant-loop-k : goal.invariant-loop-k
invariant-loop-k l = record {
  floor : l.floor ≤ l.most;
  each : (i : ℕ) → l.row ≤ i → i < l.k → (span_at l.spans i).upper ≤ l.most;
}
