use Rattle.std.proofs.Common.{◌∙◌, length, drop, sym, ap}
use Rattle.ats_proof.specs.Reading.{slot_size, slot_in, terms_in, slots_place}
use Rattle.ats_proof.specs.Value.{Proof}
use Rattle.ats_proof.proofs.Runs.{length-parts}
use Rattle.ats_proof.proofs.view.ProofView.terms.Goals as goal

pub returns : goal.returns
returns c =
    let bytes = c.self.inside.bytes.now in
    c.self.invariant.first.terms ∙ sym (length-parts slot_size slot_in (terms_in bytes) (drop (slots_place bytes) bytes)) ∙ ap (λ (p : Proof). length p.slots) c.self.view_is
