use Rattle.std.proofs.Common.{◌≡◌, ◌+◌, ◌*◌}
use Rattle.ats_client.specs.Inner.Bounds.{lower_before, AreFalling}
use Rattle.ats_client.proofs.settled.last_lower.Given as goal

abbrev pub invariant-loop-k : goal.invariant-loop-k
invariant-loop-k l = record {
  falling : AreFalling l.threshold l.work.marks l.proof.answer l.k;
  score : l.score ≡ lower_before l.work.marks l.proof.answer l.k;
  steps : l.steps ≡ l.initial.steps + 2 * l.k;
}
