use Rattle.std.proofs.Common.{◌≡◌, ◌<◌, ◌++◌, ◌∷◌, [], ℕ, List, length, map, take, get_or, ap, ap₂, sym, ◌∙◌, arith, take_all}
use Rattle.std.proofs.lemmas.List.{take_more, map-append}
use Rattle.ats_bound.specs.declared.lane.Lane.{Lane}
use Rattle.ats_bound.specs.Cut.{ShownLane, rest}
use Rattle.ats_bound.specs.Schedule.{shown, whole_lanes}
use Rattle.ats_bound.proofs.Shown.{count_at, no_lane, no_shown, rest_here, shown_size, whole_at}
use Rattle.ats_bound.proofs.cursors.rests.Goals as goal

pub rest-requires-clause-whole : goal.rest-requires-clause-whole
rest-requires-clause-whole c = whole_at c.args.lanes.now c.loop-i.i no_lane c.requires.lanes (omega arith)

pub rest-requires-clause-some : goal.rest-requires-clause-some
rest-requires-clause-some c = (count_at c.args.lanes.now c.args.counts.now c.loop-i.i no_lane c.requires.cut (omega arith)).0

pub rest-requires-clause-most : goal.rest-requires-clause-most
rest-requires-clause-most c = (count_at c.args.lanes.now c.args.counts.now c.loop-i.i no_lane c.requires.cut (omega arith)).1

pub loop-i-preserved : goal.loop-i-preserved
loop-i-preserved c =
    let lanes : List Lane = c.args.lanes.now in
    let i : ℕ = c.loop-i.i in
    let all : List ShownLane = shown (whole_lanes lanes) c.args.counts.now in
    let inside : i < length lanes = omega arith in
    let there : i < length all = omega (arith, inside, shown_size lanes c.args.counts.now c.requires.cut) in
    let amount : c.rest.result ≡ rest (get_or all i no_shown) = rest_here lanes c.args.counts.now i c.rest.result no_shown c.requires.cut inside c.rest.ensures in
    c.in_ok-push.ensures.items ∙ ap₂ (λ front last. front ++ last ∷ []) c.loop-i.invariant amount ∙ sym (map-append rest (take i all) (get_or all i no_shown ∷ [])) ∙ ap (map rest) (sym (take_more all i no_shown there))

pub returns : goal.returns
returns c =
    let all : List ShownLane = shown (whole_lanes c.args.lanes.now) c.args.counts.now in
    let size = shown_size c.args.lanes.now c.args.counts.now c.requires.cut in
    c.loop-i.invariant ∙ ap (map rest) (take_all c.loop-i.i all (omega (arith, size)))
