use Rattle.ats_tree.proofs.comparing.+begins_with_part.Given as goal

abbrev pub decreases-begins_with_part : goal.decreases-begins_with_part
decreases-begins_with_part g l = l.n
