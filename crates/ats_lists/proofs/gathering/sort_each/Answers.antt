use Rattle.std.proofs.Common.{◌<◌, ◌∙◌, ℕ, List, [], map, sym, arith}
use Rattle.std.proofs.lemmas.List.{ext_get_or, get_or-map, length-map}
use Rattle.ats_postings.specs.Lists.{by_impact}
use Rattle.ats_postings.specs.declared.entry.Entry.{Entry}
use Rattle.ats_lists.proofs.gathering.sort_each.Goals as goal

pub returns : goal.returns
returns c =
    let lists : List (List ℕ × List Entry) = c.args.lists.now.items in
    let sorted : List ℕ × List Entry → List ℕ × List Entry = λ list. (list.0, by_impact 2200 list.1) in
    let size = c.loop-i.invariant.size in
    ext_get_or ([], []) c.loop-i.lists.items (map sorted lists) (omega (arith, size, length-map lists sorted)) (λ n inside.
    let low : n < c.loop-i.i = omega (arith, inside, size, c.loop-i-test.false, c.loop-i.auto.i-end, c.len-i-end.ensures) in
    c.loop-i.invariant.done n low ∙ sym (get_or-map sorted lists n ([], []) ([], []) (omega (arith, inside, size))))
