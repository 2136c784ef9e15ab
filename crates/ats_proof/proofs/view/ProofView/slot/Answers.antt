use Rattle.std.proofs.Common.{length, drop, ap, arith}
use Rattle.std.proofs.lemmas.List.{length-drop}
use Rattle.ats_proof.specs.Reading.{slot_size, slot_in, terms_in, slots_place}
use Rattle.ats_proof.specs.Value.{Proof}
use Rattle.ats_proof.proofs.Runs.{length-parts}
use Rattle.ats_proof.proofs.Taking.{total_fixed}
use Rattle.ats_proof.proofs.view.ProofView.slot.Goals as goal

pub slot_at-requires-clause-within : goal.slot_at-requires-clause-within
slot_at-requires-clause-within c =
    let bytes = c.self.inside.bytes.now in
    omega (arith, c.requires.within, c.self.invariant.first.terms, ap (λ (p : Proof). length p.slots) c.self.view_is, length-parts slot_size slot_in (terms_in bytes) (drop (slots_place bytes) bytes))

pub slot_at-requires-clause-space : goal.slot_at-requires-clause-space
slot_at-requires-clause-space c =
    let bytes = c.self.inside.bytes.now in
    let threes = total_fixed 3 (λ b. b) (terms_in bytes) (drop (slots_place bytes) bytes) in
    rw c.split_at.ensures.back (omega (arith, c.self.invariant.first.terms, c.self.invariant.first.slots, threes, c.self.invariant.space.docs, length-drop c.self.inside.begun.slots bytes))
