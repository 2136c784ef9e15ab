use Rattle.std.proofs.Common.{◌≡◌, ◌<◌, ◌∙◌, ℕ, List, [], length, get_or, ap, sym, arith}
use Rattle.std.proofs.lemmas.List.{get_or-map}
use Rattle.ats_lists.specs.KeptList.{kept_list}
use Rattle.ats_postings.specs.declared.entry.Entry.{Entry}
use Rattle.ats_lists.specs.declared.list_keeping.ListDigests.{ListDigests}
use Rattle.ats_index.proofs.Entries.{next_above, next_entry}
use Rattle.ats_index.proofs.dictionary.dictionary_of.Goals as goal

pub push-requires-clause-above : goal.push-requires-clause-above
push-requires-clause-above g c =
    rw c.loop-i.invariant
    (next_above g.H.HashKind.hash c.args.format c.args.lists.now c.loop-i.i (omega (arith, c.loop-i-test.true, c.len-i-end.ensures.value)) c.len-i-end.ensures.lists.rise
    c.term.result.now (c.term.ensures.value ([], [])))

pub loop-i-preserved : goal.loop-i-preserved
loop-i-preserved g c =
    let H : List ℕ → List ℕ = g.H.HashKind.hash in
    let inside : c.loop-i.i < length c.args.lists.now = omega (arith, c.loop-i-test.true, c.len-i-end.ensures.value) in
    let of_entries : List Entry → ListDigests = λ entries. kept_list H c.args.format entries in
    let kept : c.index-digests-i.result ≡ of_entries c.list.result.now =
    c.index-digests-i.is
    ∙ ap (λ (all : List ListDigests). get_or all c.loop-i.i c.index-digests-i.result) c.requires
    ∙ get_or-map (λ (list : List ℕ × List Entry). of_entries list.1) c.args.lists.now c.loop-i.i ([], []) c.index-digests-i.result inside
    ∙ ap of_entries (sym (c.list.ensures.value ([], []))) in
    rw (c.in_ok-push.ensures.ok, c.loop-i.invariant)
    (next_entry g.H.HashKind.hash c.args.format c.args.lists.now c.loop-i.i inside
    c.term.result.now c.list.result.now c.root-root.result (c.term.ensures.value ([], [])) (c.list.ensures.value ([], []))
    (c.root-root.ensures H c.args.format c.list.result.now kept))
