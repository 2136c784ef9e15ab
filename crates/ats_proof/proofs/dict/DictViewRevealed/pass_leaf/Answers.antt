use Rattle.ats_proof.specs.Reading.{entry_size, entry_in}
use Rattle.ats_proof.proofs.Taking.{parts_passed}
use Rattle.ats_proof.proofs.dict.DictViewRevealed.pass_leaf.Goals as goal

pub returns-clause-entries : goal.returns-clause-entries
returns-clause-entries c =
    let view = c.args.self.now in
    let run = view.leaves in
    parts_passed entry_size entry_in run.left c.pass.new.self.left run.bytes.now c.pass.new.self.bytes.now c.pass.ensures.count (rw view.after_term at c.pass.ensures.rest)
