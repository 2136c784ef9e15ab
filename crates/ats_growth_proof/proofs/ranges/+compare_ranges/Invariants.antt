use Rattle.ats_growth_proof.proofs.ranges.+compare_ranges.Given as goal

abbrev pub decreases-compare_ranges : goal.decreases-compare_ranges
decreases-compare_ranges g l = l.n
