use Rattle.ats_proof.proofs.Encoding.{terms_bytes}
use Rattle.ats_proof.proofs.terms.TermsView.are_shown.Goals as goal

pub returns : goal.returns
returns c =
    let view = c.args.self.now in
    let run = view.leaves in
    rw view.after_term (terms_bytes run.left run.bytes.now (rw view.after_term at run.fits) c.are_bytes.ensures)
