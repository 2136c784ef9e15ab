use Rattle.std.proofs.Common.{arith}
use Rattle.ats_proof.specs.Reading.{slot_size, slot_in}
use Rattle.ats_proof.proofs.Runs.{length-parts}
use Rattle.ats_proof.proofs.docs.DocView.slot.Goals as goal

pub slot_at-requires-clause-within : goal.slot_at-requires-clause-within
slot_at-requires-clause-within c = omega (arith, c.requires.within, length-parts slot_size slot_in c.args.self.now.present c.args.self.now.slots.now)
