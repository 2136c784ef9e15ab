use Rattle.std.proofs.Common.{◌≡◌, ◌+◌, ◌*◌, ◌≤◌, length}
use Rattle.ats_proof.specs.Parts.{parts_in}
use Rattle.ats_proof.specs.Value.{present_in}
use Rattle.ats_proof.specs.Reading.{slot_size, slot_in}
use Rattle.ats_proof.proofs.sizes.present_count.Given as goal

abbrev pub invariant-slots : goal.invariant-slots
invariant-slots l = (l.left * 3 ≤ length l.rest) × (l.present + present_in (parts_in slot_size slot_in l.left l.rest) ≡ present_in (parts_in slot_size slot_in l.count l.bytes)) × (l.present + l.left ≤ l.count)

abbrev pub decreases-slots : goal.decreases-slots
decreases-slots l = l.left
