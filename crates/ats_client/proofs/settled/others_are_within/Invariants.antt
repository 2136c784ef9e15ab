use Rattle.std.proofs.Common.{◌≡◌, ◌+◌, ◌<◌, ◌≤◌, ℕ, false}
use Rattle.ats_bound.specs.Work.{mark_at}
use Rattle.ats_client.specs.Inner.Bounds.{upper}
use Rattle.ats_client.proofs.settled.others_are_within.Given as goal

abbrev pub invariant-loop-i : goal.invariant-loop-i
invariant-loop-i l = record {
  within : (i : ℕ) → i < l.i → (mark_at l.work.marks i).row ≡ false → upper l.threshold (mark_at l.work.marks i) ≤ l.score;
  steps : l.steps ≡ l.initial.steps + l.i;
}
