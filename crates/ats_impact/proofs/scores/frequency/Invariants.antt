use Rattle.std.proofs.Common.{◌≡◌, ◌≤◌, take, get_or, count_by, nat_lt}
use Rattle.ats_impact.proofs.scores.frequency.Given as goal

-- the rows so far that have a count
abbrev pub invariant-loop-counts : goal.invariant-loop-counts
invariant-loop-counts l =
    (l.found ≡ count_by (λ row. nat_lt 0 (get_or row l.k 0)) (take l.counts-index l.table)) × (l.found ≤ l.counts-index)
