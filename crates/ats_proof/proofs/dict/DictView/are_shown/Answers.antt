use Rattle.ats_proof.proofs.Encoding.{entries_bytes}
use Rattle.ats_proof.proofs.dict.DictView.are_shown.Goals as goal

pub returns : goal.returns
returns c =
    let view = c.args.self.now in
    let run = view.leaves in
    rw view.after_term (entries_bytes run.left run.bytes.now (rw view.after_term at run.fits) c.are_bytes.ensures)
