use Rattle.ats_proof.specs.Reading.{section_size}
use Rattle.ats_proof.proofs.Taking.{IsAlong}
use Rattle.ats_proof.proofs.sizes.sections_size.Given as goal

abbrev pub invariant-sections : goal.invariant-sections
invariant-sections l = IsAlong (section_size l.present) l.count l.bytes l.left l.rest

abbrev pub decreases-sections : goal.decreases-sections
decreases-sections l = l.left
