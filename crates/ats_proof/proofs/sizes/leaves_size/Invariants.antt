use Rattle.ats_proof.specs.Reading.{leaf_size}
use Rattle.ats_proof.proofs.Taking.{IsAlong}
use Rattle.ats_proof.proofs.sizes.leaves_size.Given as goal

abbrev pub invariant-leaves : goal.invariant-leaves
invariant-leaves l = IsAlong (leaf_size l.after_term) l.count l.bytes l.left l.rest

abbrev pub decreases-leaves : goal.decreases-leaves
decreases-leaves l = l.left
