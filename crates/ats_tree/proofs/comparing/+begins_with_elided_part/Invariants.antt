use Rattle.ats_tree.proofs.comparing.+begins_with_elided_part.Given as goal

abbrev pub decreases-begins_with_elided_part : goal.decreases-begins_with_elided_part
decreases-begins_with_elided_part g l = l.n
