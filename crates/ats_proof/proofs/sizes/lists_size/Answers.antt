use Rattle.std.proofs.Common.{arith}
use Rattle.ats_proof.specs.Reading.{prefix_size}
use Rattle.ats_proof.proofs.Taking.{first_fits, along_more}
use Rattle.ats_proof.proofs.sizes.lists_size.Goals as goal

pub list_size-requires : goal.list_size-requires
list_size-requires c = first_fits prefix_size c.lists.left c.lists.rest.now (omega (arith, c.lists-test.true)) c.lists.invariant.fits

pub split_at-requires : goal.split_at-requires
split_at-requires c = rw c.list_size.ensures (first_fits prefix_size c.lists.left c.lists.rest.now (omega (arith, c.lists-test.true)) c.lists.invariant.fits)

pub lists-preserved : goal.lists-preserved
lists-preserved c =
    rw (c.split_at.ensures.back, c.list_size.ensures) (along_more prefix_size c.args.count c.args.bytes.now c.lists.left c.lists.rest.now (omega (arith, c.lists-test.true)) c.lists.invariant)
