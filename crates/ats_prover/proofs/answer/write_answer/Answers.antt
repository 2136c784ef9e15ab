use Rattle.std.proofs.Common.{◌∷◌, [], length, get_or, refl, ap, ◌∙◌, arith}
use Rattle.ats_proof.specs.Written.{after}
use Rattle.ats_proof.specs.Records.{answer_record}
use Rattle.ats_proof.specs.Parts.{spelled}
use Rattle.ats_proof.specs.Value.{id_fields}
use Rattle.ats_proof.proofs.Public.{spelled_4}
use Rattle.ats_prover.proofs.Putting.{put_more}
use Rattle.ats_prover.proofs.answer.write_answer.Goals as goal

pub loop-pick-preserved : goal.loop-pick-preserved
loop-pick-preserved c =
    let i = c.loop-pick.pick-index in
    let id = get_or c.args.picks.now i 0 in record {
      fields = c.in_ok-answer.ensures.ok ∙ ap (λ w. after w (answer_record id)) c.loop-pick.invariant.fields
          ∙ put_more id_fields c.args.writer.now (spelled 2 (length c.args.picks.now) ∷ []) c.args.picks.now i id 0 (answer_record id) (omega (arith, c.loop-pick-test.true)) refl (spelled_4 id (omega (arith, c.type_inv.picks i)));
      size = omega (arith, c.in_ok-answer.ensures.size, c.loop-pick.invariant.size);
    }
