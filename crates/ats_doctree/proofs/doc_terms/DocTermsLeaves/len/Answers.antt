use Rattle.ats_doctree.proofs.Counts.{counts_impacts}
use Rattle.ats_doctree.proofs.doc_terms.DocTermsLeaves.len.Goals as goal

pub returns-clause-holds : goal.returns-clause-holds
returns-clause-holds c =
    rw (← c.self.view_is) (counts_impacts c.self.inside.total c.self.inside.len c.self.inside.documents c.self.inside.counts c.self.invariant c.len.ensures.distinct)
