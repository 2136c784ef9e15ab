use Rattle.std.proofs.Common.{arith}
use Rattle.ats_proof.specs.Reading.{leaf_size}
use Rattle.ats_proof.proofs.Taking.{along_more}
use Rattle.ats_proof.proofs.sizes.leaves_size.Goals as goal

pub leaves-preserved : goal.leaves-preserved
leaves-preserved c =
    rw c.cut_leaf.ensures.rest (along_more (leaf_size c.args.after_term) c.args.count c.args.bytes.now c.leaves.left c.leaves.rest.now (omega (arith, c.leaves-test.true)) c.leaves.invariant)
