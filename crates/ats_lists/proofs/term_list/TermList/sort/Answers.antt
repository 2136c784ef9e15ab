use Rattle.std.proofs.Common.{rules, List, ap}
use Rattle.std.specs.List.Sorted.{IsSorted}
use Rattle.std.proofs.lemmas.List.Sorted.{answers_always}
use Rattle.ats_postings.specs.Lists.{entry_cmp}
use Rattle.ats_postings.specs.declared.entry.Entry.{Entry}
use Rattle.ats_postings.proofs.Public.{sorted_gathered}
use Rattle.ats_lists.proofs.term_list.TermList.sort.Goals as goal

pub returns : goal.returns
returns c =
    let ordered : IsSorted entry_cmp c.sort_by_key.new.self.items =
    c.in_ok-sort_by_key.ensures.sorted (λ entry. (record { 0 = entry.impact }, entry.doc)) (answers_always _ _ _ (λ f a r g called. search rules)) in
    rw (← c.self.view_is) (ap (λ (es : List Entry). (c.self.inside.term.items, es))
    (sorted_gathered c.self.inside.entries.items c.sort_by_key.new.self.items (rw (← c.self.view_is) at c.requires) c.in_ok-sort_by_key.ensures.permutation ordered))
