use Rattle.ats_text_proof.proofs.own_texts.+string_in.Given as goal

abbrev pub decreases-string_in : goal.decreases-string_in
decreases-string_in g l = l.n
