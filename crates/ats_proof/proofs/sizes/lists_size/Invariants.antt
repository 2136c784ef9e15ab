use Rattle.ats_proof.specs.Reading.{prefix_size}
use Rattle.ats_proof.proofs.Taking.{IsAlong}
use Rattle.ats_proof.proofs.sizes.lists_size.Given as goal

abbrev pub invariant-lists : goal.invariant-lists
invariant-lists l = IsAlong prefix_size l.count l.bytes l.left l.rest

abbrev pub decreases-lists : goal.decreases-lists
decreases-lists l = l.left
