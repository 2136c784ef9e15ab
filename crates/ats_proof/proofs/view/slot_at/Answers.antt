use Rattle.ats_proof.specs.Reading.{slot_in}
use Rattle.ats_proof.proofs.Taking.{part_at}
use Rattle.ats_proof.proofs.view.slot_at.Goals as goal

pub returns : goal.returns
returns c = rw (c.number_1.ensures, c.number_2.ensures, c.split_at.ensures.back, c.nth-slot.ensures.part) (part_at 3 slot_in c.args.count c.args.i c.args.bytes.now c.requires.within)
