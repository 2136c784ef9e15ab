use Rattle.ats_growth_check.proofs.pairing.+roots_of.Given as goal

abbrev pub decreases-roots_of : goal.decreases-roots_of
decreases-roots_of g l = l.n
