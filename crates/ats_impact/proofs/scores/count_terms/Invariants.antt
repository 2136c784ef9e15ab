use Rattle.std.proofs.Common.{◌≡◌, ◌<◌, ℕ, length, take, get_or}
use Rattle.ats_terms.specs.Terms.{occurrences}
use Rattle.ats_impact.proofs.Occurrences.{term_at}
use Rattle.ats_impact.proofs.scores.count_terms.Given as goal

-- each count is that of the terms so far
abbrev pub invariant-loop-i : goal.invariant-loop-i
invariant-loop-i l = record {
  same : length l.items.items ≡ length l.query;
  each : (k : ℕ) → k < length l.query → get_or l.items.items k 0 ≡ occurrences (term_at l.query k) (take l.i l.terms);
}
