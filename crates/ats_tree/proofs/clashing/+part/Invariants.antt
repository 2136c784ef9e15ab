use Rattle.ats_tree.proofs.clashing.+part.Given as goal

abbrev pub decreases-part : goal.decreases-part
decreases-part g l = l.n
