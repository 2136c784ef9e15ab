use Rattle.ats_growth_proof.proofs.ranges.+compare_range.Given as goal

abbrev pub decreases-compare_range : goal.decreases-compare_range
decreases-compare_range g l = l.n
