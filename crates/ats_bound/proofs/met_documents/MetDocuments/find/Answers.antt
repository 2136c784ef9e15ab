use Rattle.ats_bound.specs.Inner.Pages.{slot_in}
use Rattle.ats_bound.proofs.Slots.{slot_found, slots_once}
use Rattle.ats_bound.proofs.met_documents.MetDocuments.find.Goals as goal

pub returns-clause-slot : goal.returns-clause-slot
returns-clause-slot c =
    rw c.self.view_is at (slot_found c.self.inside.met.items (slot_in c.self.inside.slots.pages) c.args.doc c.get.result c.self.invariant c.get.ensures)

pub returns-clause-once : goal.returns-clause-once
returns-clause-once c = rw c.self.view_is at (slots_once c.self.inside.met.items (slot_in c.self.inside.slots.pages) c.self.invariant)
