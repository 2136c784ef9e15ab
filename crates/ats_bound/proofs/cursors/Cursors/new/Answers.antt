use Rattle.std.proofs.Common.{◌≡◌, ℕ, List, length, map, arith, ap, sym, subst, rules}
use Rattle.ats_bound.specs.declared.lane.Lane.{Lane}
use Rattle.ats_bound.specs.Cut.{rest}
use Rattle.ats_bound.specs.Inner.Cursors.{AreRests}
use Rattle.ats_bound.specs.Schedule.{IsCut, WholeLane, shown, whole_lanes}
use Rattle.std.proofs.lemmas.List.{length-map}
use Rattle.ats_bound.proofs.Shown.{length-shown, first_is_cut, have_entries}
use Rattle.ats_bound.proofs.Stages.{rests_are}
use Rattle.ats_bound.proofs.cursors.Cursors.new.Goals as goal

pub rests-requires-clause-cut : goal.rests-requires-clause-cut
rests-requires-clause-cut c = rw (c.deref.ensures.value, c.in_ok-counts.ensures) (first_is_cut (whole_lanes c.args.lanes.now) (have_entries (whole_lanes c.args.lanes.now) c.requires))

pub total-threshold-requires : goal.total-threshold-requires
total-threshold-requires c =
    let lanes : List WholeLane = whole_lanes c.args.lanes.now in
    let counts : List ℕ = c.in_ok-counts.counts.items in
    let cut : IsCut lanes counts = rw c.in_ok-counts.ensures (first_is_cut lanes (have_entries lanes c.requires)) in
    let each : c.in_ok-rests.rests.items ≡ map rest (shown lanes counts) = rw c.deref.ensures.value at c.in_ok-rests.ensures in
    omega (arith, ap length c.deref-2.ensures.value, ap length each, length-map (shown lanes counts) rest, length-shown lanes counts cut.size, c.requires.few)

pub invariant_of-result : goal.invariant_of-result
invariant_of-result c =
    let lanes : List WholeLane = whole_lanes c.args.lanes.now in
    let counts : List ℕ = c.in_ok-counts.counts.items in
    let same : c.in_ok-to_vec.field-0.items ≡ c.args.lanes.now = c.in_ok-to_vec.ensures.items_if_clones_equal (search rules) in
    let cut : IsCut lanes counts = rw c.in_ok-counts.ensures (first_is_cut lanes (have_entries lanes c.requires)) in
    let are : AreRests (record { lanes = lanes; cut = counts }) c.in_ok-rests.rests.items c.total-threshold.result =
    rests_are (record { lanes = lanes; cut = counts }) c.in_ok-rests.rests.items c.total-threshold.result (record { whole = c.requires; cut = cut })
    (rw c.deref.ensures.value at c.in_ok-rests.ensures) (rw c.deref-2.ensures.value at c.total-threshold.ensures) in
    subst (λ (ls : List Lane). AreRests (record { lanes = whole_lanes ls; cut = counts }) c.in_ok-rests.rests.items c.total-threshold.result) (sym same) are
