use Rattle.ats_terms.proofs.Folding.{term_of}
use Rattle.ats_terms.proofs.terms.is_term.Goals as goal

pub returns-then-word-gt0-clause-term : goal.returns-then-word-gt0-clause-term
returns-then-word-gt0-clause-term c = term_of c.args.word.now c.utf8.word c.if-word-gt0.true
