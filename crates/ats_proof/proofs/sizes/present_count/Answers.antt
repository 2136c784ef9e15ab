use Rattle.std.proofs.Common.{◌∙◌, ◌<◌, ◌-◌, drop, ap, arith}
use Rattle.std.proofs.lemmas.List.{length-drop}
use Rattle.std.proofs.lemmas.List.Sums.{sum_by-cons}
use Rattle.ats_proof.specs.Parts.{parts_in}
use Rattle.ats_proof.specs.Value.{present_in, kind_of_slot}
use Rattle.ats_proof.specs.Reading.{slot_size, slot_in}
use Rattle.ats_proof.proofs.Taking.{parts_more}
use Rattle.ats_proof.proofs.sizes.present_count.Goals as goal

pub slots-preserved : goal.slots-preserved
slots-preserved c =
    let left = c.slots.left in
    let rest = c.slots.rest.now in
    let some : 0 < left = omega (arith, c.slots-test.true) in
    let e = ap present_in (parts_more slot_size slot_in left rest some) ∙ sum_by-cons kind_of_slot (slot_in rest) (parts_in slot_size slot_in (left - 1) (drop 3 rest)) in
    rw c.split_at.ensures.back
    (omega (arith, some, c.slots.invariant.0, length-drop 3 rest), omega (arith, e, c.slots.invariant.1, c.kind_of-present.ensures.kind), omega (arith, some, c.slots.invariant.2, c.kind_of-present.ensures.few))
