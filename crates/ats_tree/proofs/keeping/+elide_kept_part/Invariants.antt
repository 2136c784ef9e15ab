use Rattle.ats_tree.proofs.keeping.+elide_kept_part.Given as goal

abbrev pub decreases-elide_kept_part : goal.decreases-elide_kept_part
decreases-elide_kept_part l = l.n
