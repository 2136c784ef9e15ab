use Rattle.std.proofs.Common.{ℕ, ◌<◌}
use Rattle.ats_bound.specs.Floors.{IsInSpan, span_at}
use Rattle.ats_bound.specs.Settled.{row}
use Rattle.ats_bound.proofs.settling.rows_are_in_spans.Given as goal

abbrev pub invariant-loop-k : goal.invariant-loop-k
invariant-loop-k l = (j : ℕ) → j < l.k → IsInSpan (span_at l.spans j) (row l.brackets l.picks j)
