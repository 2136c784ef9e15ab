use Rattle.std.proofs.Common.{ℕ, ◌<◌}
use Rattle.ats_bound.specs.Floors.{IsInSpan, span_at}
use Rattle.ats_bound.proofs.unshown.crosses.Given as goal

abbrev pub invariant-loop-span : goal.invariant-loop-span
invariant-loop-span l = (k : ℕ) → k < l.span-index → IsInSpan (span_at l.spans k) l.bracket → ⊥
