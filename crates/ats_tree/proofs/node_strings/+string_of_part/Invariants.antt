use Rattle.ats_tree.proofs.node_strings.+string_of_part.Given as goal

abbrev pub decreases-string_of_part : goal.decreases-string_of_part
decreases-string_of_part g l = l.depth
