use Rattle.std.proofs.Common.{sym, ◌∙◌, ◌≡◌, rules}
use Rattle.ats_bound.proofs.Cells.{placed, others_kept}
use Rattle.ats_bound.proofs.pages.Pages.put.Goals as goal

pub returns-in_ok-insert-in-None-clause-here : goal.returns-in_ok-insert-in-None-clause-here
returns-in_ok-insert-in-None-clause-here c =
    let same : c.in-Ok.number ≡ c.args.number = search rules in
    λ slot is. placed c.args.self.now.pages c.insert.new.self c.args.doc _ c.in_ok-insert-in-None.ensures.updates.1 slot (c.page_of.ensures.here ∙ same ∙ is)

pub returns-in_ok-insert-in-None-clause-others : goal.returns-in_ok-insert-in-None-clause-others
returns-in_ok-insert-in-None-clause-others c =
    let same = rw c.get_mut.follows.holds-at-none at c.in_ok-insert-in-None.ensures.updates.2 in
    others_kept c.args.self.now.pages c.insert.new.self c.args.doc _ c.in_ok-insert-in-None.ensures.updates.1 (sym c.in-None.ensures.value) c.page_of.ensures.others same
