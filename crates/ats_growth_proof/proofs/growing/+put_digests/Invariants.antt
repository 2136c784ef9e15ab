use Rattle.ats_growth_proof.proofs.growing.+put_digests.Given as goal

abbrev pub decreases-put_digests : goal.decreases-put_digests
decreases-put_digests g l = l.n
