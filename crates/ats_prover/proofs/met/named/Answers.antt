use Rattle.std.proofs.Common.{◌++◌, ℕ, List, map, take, get_or, sym, ap, ◌∙◌, arith, take_all}
use Rattle.std.specs.List.{flat_map}
use Rattle.std.proofs.lemmas.List.{length-take-le}
use Rattle.ats_postings.specs.declared.entry.Entry.{Entry}
use Rattle.ats_bound.specs.Schedule.{shown, whole_lanes}
use Rattle.ats_bound.proofs.Public.{count_at, shown_size}
use Rattle.ats_honest.proofs.Public.{docs_in}
use Rattle.ats_prover.proofs.Named.{named_more}
use Rattle.ats_prover.proofs.met.named.Goals as goal

pub slice_bounds-keep_entries-end : goal.slice_bounds-keep_entries-end
slice_bounds-keep_entries-end c =
    let count = get_or c.args.cut.now c.loop-i.i 0 in
    sym (length-take-le count (get_or c.args.lanes.now c.loop-i.i _).entries.now (count_at c.args.lanes.now c.args.cut.now c.loop-i.i _ c.requires.cut (omega (arith, c.loop-i-test.true))).1)

pub loop-i-preserved : goal.loop-i-preserved
loop-i-preserved c =
    let docs : List ℕ = map (λ (e : Entry). e.doc) (take (get_or c.args.cut.now c.loop-i.i 0) (get_or c.args.lanes.now c.loop-i.i _).entries.now) in
    c.in_ok-keep_entries.ensures ∙ ap (λ (so_far : List ℕ). so_far ++ docs) c.loop-i.invariant
    ∙ named_more c.args.lanes.now c.args.cut.now c.loop-i.i _ c.requires.cut (omega (arith, c.loop-i-test.true))

pub returns : goal.returns
returns c =
    let lanes = whole_lanes c.args.lanes.now in
    c.loop-i.invariant
    ∙ ap (flat_map docs_in) (take_all c.loop-i.i (shown lanes c.args.cut.now) (omega (arith, shown_size c.args.lanes.now c.args.cut.now c.requires.cut, c.loop-i-test.false)))
