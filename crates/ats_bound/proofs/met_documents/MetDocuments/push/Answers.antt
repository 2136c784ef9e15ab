use Rattle.std.proofs.Common.{◌≡◌, ◌≢◌, ◌<◌, ◌+◌, ◌/◌, ◌%◌, ◌++◌, ◌∷◌, [], ℕ, List, length, length-append, sym, ap, ◌∙◌, subst, take, nat_eq, rules}
use Rattle.std.specs.Map.{lookup}
use Rattle.std.proofs.Math.Seq.{take-append_seam}
use Rattle.ats_bound.specs.declared.met_documents.Met.{Met}
use Rattle.ats_bound.specs.Inner.MetDocuments.{AreSlots, met_at}
use Rattle.ats_bound.specs.Inner.Pages.{slot_at, slot_in}
use Rattle.ats_bound.proofs.Slots.{slots_after}
use Rattle.ats_bound.proofs.met_documents.MetDocuments.push.Goals as goal

pub invariant_of-self-in-Ok : goal.invariant_of-self-in-Ok
invariant_of-self-in-Ok c =
    let met : List Met = c.self.inside.met.items in
    let fresh : (slot : ℕ) → slot < length met → (met_at met slot).doc ≢ c.args.met.doc = rw (← c.self.view_is) at c.requires in
    let after = c.in_ok-push.ensures.items in
    let size : c.len.result ≡ length c.push.new.self.items = search rules in
    let number : c.len.result ≡ length met + 1 = size ∙ ap length after ∙ length-append met (c.args.met ∷ []) in
    rw after (slots_after met c.args.met (slot_in c.self.inside.slots.pages) (slot_in c.put.new.self.pages) c.self.invariant fresh
    (c.in-Ok.ensures.here (length met) number) c.in-Ok.ensures.others)

pub invariant_of-self-in-Err : goal.invariant_of-self-in-Err
invariant_of-self-in-Err c =
    let met : List Met = c.self.inside.met.items in
    let size : c.len-slot.result ≡ length met = search rules in
    let back : c.truncate.new.self.items ≡ met = c.truncate.ensures.items ∙ ap (take c.len-slot.result) c.in_ok-push.ensures.items ∙ ap (λ n. take n (met ++ c.args.met ∷ [])) size ∙ take-append_seam met (c.args.met ∷ []) in
    let slots : c.put.new.self.pages.entries ≡ c.self.inside.slots.pages.entries = c.in-Err.ensures.same in
    rw back (subst (λ (es : List (ℕ × List ℕ)). AreSlots met (λ doc. slot_at (lookup (nat_eq (doc / 64)) es) (doc % 64))) (sym slots) c.self.invariant)
