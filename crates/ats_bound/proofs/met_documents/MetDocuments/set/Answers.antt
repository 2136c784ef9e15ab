use Rattle.std.proofs.Common.{◌≡◌, ◌<◌, List, length, sym, subst}
use Rattle.ats_bound.specs.Inner.Pages.{slot_in}
use Rattle.ats_bound.specs.declared.met_documents.Met.{Met}
use Rattle.ats_bound.specs.Inner.MetDocuments.{met_at}
use Rattle.ats_bound.proofs.Slots.{slots_set}
use Rattle.ats_bound.proofs.met_documents.MetDocuments.set.Goals as goal

pub invariant_of-self : goal.invariant_of-self
invariant_of-self c =
    let inside : c.args.slot < length c.self.inside.met.items = subst (λ (met : List Met). c.args.slot < length met) (sym c.self.view_is) c.requires.inside in
    let same : c.args.met.doc ≡ (met_at c.self.inside.met.items c.args.slot).doc = subst (λ (met : List Met). c.args.met.doc ≡ (met_at met c.args.slot).doc) (sym c.self.view_is) c.requires.doc in
    slots_set c.self.inside.met.items c.args.met c.args.slot (slot_in c.self.inside.slots.pages) c.self.invariant inside same
