use Rattle.std.proofs.Common.{[], ◌<◌, length, map, sym, ap, ◌∙◌, arith}
use Rattle.std.proofs.lemmas.List.{length-map, get_or-map}
use Rattle.ats_proof.specs.Written.{Written, after}
use Rattle.ats_proof.specs.Records.{slot_record}
use Rattle.ats_dict.specs.declared.spot.Spot.TheVariants.{At}
use Rattle.ats_proof.specs.Value.{slot_fields}
use Rattle.ats_honest.specs.Terms.{slot_of}
use Rattle.ats_prover.proofs.Records.{slot_is}
use Rattle.ats_prover.proofs.Putting.{put_more}
use Rattle.ats_prover.proofs.shown.write_slots.Goals as goal

pub loop-spot-init : goal.loop-spot-init
loop-spot-init c = record { fields = sym c.requires.started; size = omega arith }

pub loop-spot-preserved : goal.loop-spot-preserved
loop-spot-preserved c =
    let i = c.loop-spot.spot-index in
    let positions = c.args.positions.now in
    let spots = c.args.spots.now in
    let inside : i < length spots = omega (arith, c.loop-spot-test.true) in record {
      fields = c.in_ok-slot.ensures.ok ∙ ap (λ (w : Written). after w (slot_record c.slot.result)) c.loop-spot.invariant.fields
          ∙ put_more slot_fields c.args.writer.now [] (map (slot_of positions) spots) i c.slot.result (slot_of positions (At 0)) (slot_record c.slot.result)
          (omega (arith, inside, length-map spots (slot_of positions)))
          (c.slot.ensures ∙ sym (get_or-map (slot_of positions) spots i _ (slot_of positions (At 0)) inside)) (slot_is c.slot.result (omega (arith, c.slot.type_inv)));
      size = omega (arith, c.in_ok-slot.ensures.size, c.loop-spot.invariant.size);
    }
