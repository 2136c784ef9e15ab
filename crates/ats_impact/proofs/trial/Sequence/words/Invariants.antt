use Rattle.std.proofs.Common.{◌≡◌, ◌*◌, string_bytes}
use Rattle.ats_impact.specs.Trial.{number_at, joined_words}
use Rattle.ats_impact.proofs.trial.Sequence.words.Given as goal

-- the words so far, and where the sequence is after them
abbrev pub invariant-loop-i : goal.invariant-loop-i
invariant-loop-i l = (string_bytes l.text ≡ joined_words l.initial.self 0 l.i) × (l.self ≡ number_at l.initial.self (2 * l.i))
