use Rattle.ats_growth_proof.proofs.comparing.+compare.Given as goal

abbrev pub decreases-compare : goal.decreases-compare
decreases-compare g l = l.n
