use Rattle.std.proofs.Common.{◌≡◌, ◌+◌, ◌<◌, ◌≤◌, ℕ}
use Rattle.ats_bound.specs.Work.{mark_at}
use Rattle.ats_client.proofs.met.met.Given as goal

abbrev pub invariant-loop-index : goal.invariant-loop-index
invariant-loop-index l = record {
  steps : l.steps ≡ l.initial.steps + l.index;
  named : (i : ℕ) → i < l.index → 1 ≤ (mark_at l.work.marks i).list;
}
