use Rattle.std.proofs.Common.{drop, arith}
use Rattle.std.proofs.lemmas.List.{length-drop}
use Rattle.ats_proof.specs.Parts.{number_in}
use Rattle.ats_proof.proofs.Taking.{total_fixed}
use Rattle.ats_proof.proofs.digests.counted_digests_4.Goals as goal

pub cut_digests-requires : goal.cut_digests-requires
cut_digests-requires c =
    let bytes = c.args.bytes.now in
    let all = total_fixed 32 (λ b. b) (number_in 4 bytes) (drop 4 bytes) in
    rw c.split_at.ensures.back (omega (arith, c.requires, all, c.number_4-left.ensures, length-drop 4 bytes))
