use Rattle.std.proofs.Common.{◌≡◌, ◌*◌}
use Rattle.ats_impact.specs.Trial.{number_at}
use Rattle.ats_impact.proofs.trial.Sequence.pass.Given as goal

abbrev pub invariant-loop-i : goal.invariant-loop-i
invariant-loop-i l = l.self ≡ number_at l.initial.self (2 * l.i)
