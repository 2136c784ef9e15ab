use Rattle.std.proofs.Common.{◌≡◌, ◌++◌, ℕ, List, [], length, get_or, take, subst, ap₂, arith}
use Rattle.std.specs.Int.{to_be_bytes, w32}
use Rattle.std.specs.List.{flat_map}
use Rattle.ats_postings.specs.declared.entry.Entry.{Entry}
use Rattle.ats_index.specs.Spelling.{list_bytes}
use Rattle.ats_index.proofs.Writing.{one_more}
use Rattle.ats_index.proofs.write.put_lists.Goals as goal

pub loop-i-preserved : goal.loop-i-preserved
loop-i-preserved g c about front is =
    let number : List ℕ = to_be_bytes w32 (length c.args.lists.now) in
    let next : (c.term.result.now, c.list.result.now) ≡ get_or c.args.lists.now c.loop-i.i ([], []) =
    ap₂ (λ (term : List ℕ) (entries : List Entry). (term, entries)) (c.term.ensures.value ([], [])) (c.list.ensures.value ([], [])) in
    subst (g.W.Takes.has c.put_list.new.to about)
    (one_more list_bytes front number c.args.lists.now c.loop-i.i (c.term.result.now, c.list.result.now) ([], [])
    (omega (arith, c.loop-i-test.true, c.len-i-end.ensures.value)) next)
    (c.in_ok-put_list.ensures about (front ++ (number ++ flat_map list_bytes (take c.loop-i.i c.args.lists.now))) (c.loop-i.invariant about front is))
