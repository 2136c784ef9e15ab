use Rattle.std.proofs.Common.{[], ℕ, List, length, get_or, refl, sym, ap, ap₂, ◌∙◌, arith, append-nil}
use Rattle.ats_proof.specs.Written.{Written, after}
use Rattle.ats_proof.specs.Value.{digest_fields}
use Rattle.ats_prover.proofs.Putting.{put_more}
use Rattle.ats_prover.proofs.shown.write_each_digest.Goals as goal

pub loop-digest-init : goal.loop-digest-init
loop-digest-init c = record { fields = sym c.requires.started; size = omega arith }

pub loop-digest-preserved : goal.loop-digest-preserved
loop-digest-preserved c =
    let i = c.loop-digest.digest-index in
    let digest : List ℕ = get_or c.args.digests.now i [] in
    let all = c.as_slice-digest-items.ensures.value in record {
      fields = c.in_ok-digest.ensures.ok
          ∙ ap₂ (λ (w : Written) (d : List ℕ). after w d) c.loop-digest.invariant.fields (ap (λ (ds : List (List ℕ)). get_or ds i []) all)
          ∙ put_more digest_fields c.args.writer.now [] c.args.digests.now i digest [] digest
          (omega (arith, c.loop-digest-test.true, ap (λ (ds : List (List ℕ)). length ds) all)) refl (sym (append-nil digest));
      size = omega (arith, c.in_ok-digest.ensures.size, c.loop-digest.invariant.size);
    }
