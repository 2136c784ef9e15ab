use Rattle.ats_proof.specs.Reading.{term_size, term_in}
use Rattle.ats_proof.proofs.Taking.{parts_passed}
use Rattle.ats_proof.proofs.terms.TermsViewRevealed.pass_leaf.Goals as goal

pub returns-clause-terms : goal.returns-clause-terms
returns-clause-terms c =
    let view = c.args.self.now in
    let run = view.leaves in
    parts_passed term_size term_in run.left c.pass.new.self.left run.bytes.now c.pass.new.self.bytes.now c.pass.ensures.count (rw view.after_term at c.pass.ensures.rest)
