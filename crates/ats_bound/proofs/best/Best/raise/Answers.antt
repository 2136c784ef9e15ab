use Rattle.std.proofs.Common.{◌≡◌, ◌≢◌, ◌<◌, ◌∷◌, ℕ, List, length, get_or, sym, subst, arith, inl, inr, ◌∙◌, Ok, Err}
use Rattle.std.proofs.lemmas.Bool.{cases_lt}
use Rattle.std.proofs.lemmas.List.Sorted.{IsPermutation-refl, searched}
use Rattle.ats_bound.specs.Inner.Best.{AreKept}
use Rattle.ats_bound.proofs.Kept.{absent_is_low, raised, raised_absent}
use Rattle.ats_bound.proofs.best.Best.raise.Goals as goal

pub returns-in-Ok-clause-best : goal.returns-in-Ok-clause-best
returns-in-Ok-clause-best c = λ all i best low same.
    let kept : List ℕ = c.args.self.now in
    let are : AreKept kept = subst AreKept c.self.view_is c.self.invariant in
    let is : c.deref.result.now ≡ kept = c.deref.ensures.value ∙ c.self.view_is in
    let place : ℕ = c.in-Ok.place in
    let position = rw (c.in-Ok.is, is) at c.binary_search.ensures.position in
    let found = searched kept c.args.from (Ok place) position are.ascends in
    let here : get_or kept place 0 ≡ c.args.from = found.1 in
    raised kept are.ascends c.put.new.self place c.args.to found.0 (omega (arith, here)) c.put.ensures.same all i best low (same ∙ sym here)

pub returns-in-Err-clause-best : goal.returns-in-Err-clause-best
returns-in-Err-clause-best c = λ all i best low same.
    let kept : List ℕ = c.args.self.now in
    let from : ℕ = c.args.from in
    let are : AreKept kept = subst AreKept c.self.view_is c.self.invariant in
    let is : c.deref.result.now ≡ kept = c.deref.ensures.value ∙ c.self.view_is in
    let place : ℕ = c.in-Err.field-0 in
    let position = rw (c.in-Err.is, is) at c.binary_search.ensures.position in
    let found = searched kept from (Err place) position are.ascends in
    let absent : (k : ℕ) → k < length kept → get_or kept k 0 ≢ from = λ k inside e. elim (cases_lt k place) [
      | inl before ↦ omega (arith, found.1 k before, e)
      | inr after ↦ omega (arith, found.2 k after inside, e)
    ] in
    raised_absent kept are.ascends c.add.new.self all i from c.args.to c.add.ensures.size c.requires best low same
    (absent_is_low kept are.ascends all i from are.some best low same absent)
    (c.add.ensures.best all (c.args.to ∷ all) best (IsPermutation-refl (c.args.to ∷ all)))
