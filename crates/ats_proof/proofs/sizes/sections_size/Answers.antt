use Rattle.std.proofs.Common.{arith}
use Rattle.ats_proof.specs.Reading.{section_size}
use Rattle.ats_proof.proofs.Taking.{first_fits, along_more}
use Rattle.ats_proof.proofs.sizes.sections_size.Goals as goal

pub section_size-requires : goal.section_size-requires
section_size-requires c = first_fits (section_size c.args.present) c.sections.left c.sections.rest.now (omega (arith, c.sections-test.true)) c.sections.invariant.fits

pub split_at-requires : goal.split_at-requires
split_at-requires c = rw c.section_size.ensures (first_fits (section_size c.args.present) c.sections.left c.sections.rest.now (omega (arith, c.sections-test.true)) c.sections.invariant.fits)

pub sections-preserved : goal.sections-preserved
sections-preserved c =
    rw (c.split_at.ensures.back, c.section_size.ensures) (along_more (section_size c.args.present) c.args.count c.args.bytes.now c.sections.left c.sections.rest.now (omega (arith, c.sections-test.true)) c.sections.invariant)
