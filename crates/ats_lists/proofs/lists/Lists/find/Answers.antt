use Rattle.std.proofs.Common.{ℕ, List, [], get_or, rules}
use Rattle.std.proofs.lemmas.Fn.{always_returns_same}
use Rattle.ats_terms.specs.Query.{byte_cmp}
use Rattle.ats_terms.proofs.Public.{equal_from}
use Rattle.ats_postings.specs.declared.entry.Entry.{Entry}
use Rattle.ats_lists.proofs.Finding.{searchable, parted}
use Rattle.ats_lists.proofs.lists.Lists.find.Goals as goal

pub returns-in-Ok-clause-found : goal.returns-in-Ok-clause-found
returns-in-Ok-clause-found c =
    let term : List ℕ = c.args.term.now in
    let position = c.in-Ok.ensures.position (λ (l : List ℕ × List Entry). byte_cmp l.0 term) (always_returns_same _ _ _ (λ a r g called. search rules)) in
    rw (← c.self.view_is, ← c.deref.ensures.value) (c.in-Ok.ensures.bound, equal_from (get_or c.deref.result.now c.in-Ok.i ([], [])).0 term (position ([], [])))

pub returns-in-Err-clause-none : goal.returns-in-Err-clause-none
returns-in-Err-clause-none c =
    let term : List ℕ = c.args.term.now in
    let position = c.in-Err.ensures.position (λ (l : List ℕ × List Entry). byte_cmp l.0 term) (always_returns_same _ _ _ (λ a r g called. search rules)) in
    rw (← c.self.view_is, ← c.deref.ensures.value)
    (parted c.deref.result.now term c.in-Err.field-0 (position (searchable c.deref.result.now term (rw c.deref.ensures.value c.self.invariant.rise))))
