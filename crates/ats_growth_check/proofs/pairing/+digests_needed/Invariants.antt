use Rattle.ats_growth_check.proofs.pairing.+digests_needed.Given as goal

abbrev pub decreases-digests_needed : goal.decreases-digests_needed
decreases-digests_needed l = l.n
