use Rattle.std.proofs.Common.{◌≡◌, ◌*◌}
use Rattle.ats_impact.specs.Trial.{number_at, first_texts}
use Rattle.ats_impact.proofs.trial.trial_texts.Given as goal

-- the texts so far, and where the sequence is after them
abbrev pub invariant-loop-i : goal.invariant-loop-i
invariant-loop-i l = (l.texts ≡ first_texts l.number l.i) × (l.sequence ≡ number_at l.number (2 * (50 * l.i)))
