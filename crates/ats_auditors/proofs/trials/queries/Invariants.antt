use Rattle.std.proofs.Common.{◌≡◌, length}
use Rattle.ats_auditors.specs.Inner.Trial.{AreTrialQueries}
use Rattle.ats_auditors.proofs.trials.queries.Given as goal

-- the queries so far
abbrev pub invariant-loop-i : goal.invariant-loop-i
invariant-loop-i l = (length l.queries.items ≡ l.i) × AreTrialQueries l.number l.queries.items
