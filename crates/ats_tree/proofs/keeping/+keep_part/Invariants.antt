use Rattle.ats_tree.proofs.keeping.+keep_part.Given as goal

abbrev pub decreases-keep_part : goal.decreases-keep_part
decreases-keep_part g l = l.n
