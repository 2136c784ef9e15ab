use Rattle.std.proofs.Common.{[], ◌∷◌, ℕ, length, sym, ap, ◌∙◌, arith, append-nil}
use Rattle.std.specs.List.{flat_map}
use Rattle.std.proofs.lemmas.Result.{on_ok_weaker}
use Rattle.ats_proof.specs.Records.{count16_record}
use Rattle.ats_proof.specs.Written.{Written, after}
use Rattle.ats_proof.specs.Parts.{spelled}
use Rattle.ats_proof.specs.Value.{digest_fields}
use Rattle.ats_prover.specs.Inner.Writing.{put}
use Rattle.ats_prover.proofs.Putting.{put_put, started}
use Rattle.ats_proof.proofs.Public.{spelled_2}
use Rattle.ats_prover.proofs.shown.write_digests.Goals as goal

pub write_each_digest-requires-clause-started : goal.write_each_digest-requires-clause-started
write_each_digest-requires-clause-started c = started c.args.writer.now c.count16.new.self _ c.in_ok-count16.ensures.ok

pub returns-clause-fields : goal.returns-clause-fields
returns-clause-fields c =
    let n : ℕ = length c.args.digests.now in
    let number = c.in_ok-count16.ensures.ok
    ∙ ap (λ (k : ℕ). after c.args.writer.now (count16_record k)) c.len.ensures
    ∙ ap (after c.args.writer.now) (spelled_2 n (omega (arith, c.requires.few)) ∙ sym (append-nil (spelled 2 n))) in
    on_ok_weaker c.write_each_digest.result (λ is. is ∙ ap (λ (w : Written). put w (flat_map digest_fields c.args.digests.now)) number
    ∙ put_put c.args.writer.now (spelled 2 n ∷ []) (flat_map digest_fields c.args.digests.now)) c.write_each_digest.ensures.fields
