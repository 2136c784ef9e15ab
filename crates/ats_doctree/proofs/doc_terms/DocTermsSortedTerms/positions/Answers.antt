use Rattle.ats_doctree.proofs.Positions.{rise}
use Rattle.ats_doctree.proofs.doc_terms.DocTermsSortedTerms.positions.Goals as goal

pub returns-clause-rise : goal.returns-clause-rise
returns-clause-rise c = rise c.args.self.now c.len.ensures.holds
