use Rattle.std.proofs.Common.{drop, arith}
use Rattle.ats_proof.specs.Parts.{number_in}
use Rattle.ats_proof.proofs.Taking.{total_fixed}
use Rattle.ats_proof.proofs.sizes.counted_digests_size_4.Goals as goal

pub returns : goal.returns
returns c =
    let all = total_fixed 32 (λ b. b) (number_in 4 c.args.bytes.now) (drop 4 c.args.bytes.now) in
    omega (arith, all, c.number_4.ensures)
