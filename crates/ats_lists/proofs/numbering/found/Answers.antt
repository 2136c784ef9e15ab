use Rattle.std.proofs.Common.{◌≡◌, ◌⊎◌, ◌+◌, sym, subst}
use Rattle.ats_lists.specs.Inner.Gathered.{IsSlotOf}
use Rattle.ats_lists.specs.declared.numbering.Slot.{Slot}
use Rattle.ats_lists.proofs.numbering.found.Goals as goal

pub number_in-requires-clause-slot : goal.number_in-requires-clause-slot
number_in-requires-clause-slot c =
    let look = c.in_ok-slot.ensures.lookup in
    let slot : Slot = c.in_ok-slot.slot.now in
    subst (λ (s : Slot). (s.size ≡ 0) ⊎ IsSlotOf c.args.terms.now s) (sym look.1)
    (c.requires.slots (c.first_slot_of-at.result + c.loop-way.way) slot look.3.0)
