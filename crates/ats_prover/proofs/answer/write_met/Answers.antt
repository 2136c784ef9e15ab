use Rattle.std.proofs.Common.{◌∷◌, [], length, get_or, refl, ap, ◌∙◌, arith}
use Rattle.ats_proof.specs.Written.{after}
use Rattle.ats_proof.specs.Records.{met_record}
use Rattle.ats_proof.specs.Parts.{spelled}
use Rattle.ats_proof.specs.Value.{id_fields}
use Rattle.ats_proof.proofs.Public.{spelled_4}
use Rattle.ats_prover.proofs.Putting.{put_more}
use Rattle.ats_prover.proofs.answer.write_met.Goals as goal

pub loop-id-preserved : goal.loop-id-preserved
loop-id-preserved c =
    let i = c.loop-id.id-index in
    let id = get_or c.args.met.now i 0 in record {
      fields = c.in_ok-met.ensures.ok ∙ ap (λ w. after w (met_record id)) c.loop-id.invariant.fields
          ∙ put_more id_fields c.args.writer.now (spelled 4 (length c.args.met.now) ∷ []) c.args.met.now i id 0 (met_record id) (omega (arith, c.loop-id-test.true)) refl (spelled_4 id (omega (arith, c.type_inv.met i)));
      size = omega (arith, c.in_ok-met.ensures.size, c.loop-id.invariant.size);
    }
