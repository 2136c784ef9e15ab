use Rattle.std.proofs.Common.{◌≡◌, ◌∙◌, drop, ap, arith}
use Rattle.ats_proof.specs.Parts.{counted_size}
use Rattle.ats_proof.specs.Reading.{digest_size, section_leaves_size, section_slots_place}
use Rattle.ats_proof.proofs.Taking.{total_fixed}
use Rattle.ats_proof.proofs.sizes.section_size.Goals as goal

pub returns : goal.returns
returns c =
    let bytes = c.args.bytes.now in
    let leaves : c.counted_leaves_size-leaves.result ≡ section_leaves_size bytes = c.counted_leaves_size-leaves.ensures in
    let digests = c.counted_digests_size_2.ensures ∙ ap (counted_size 2 digest_size) (c.split_at.ensures.back ∙ ap (λ n. drop n bytes) leaves) in
    let all = total_fixed 3 (λ b. b) c.args.present (drop (section_slots_place bytes) bytes) in
    omega (arith, leaves, digests, all)
