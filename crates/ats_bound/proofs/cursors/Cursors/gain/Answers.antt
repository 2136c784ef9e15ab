use Rattle.std.proofs.Common.{◌<◌, ◌≤◌, ℕ, length, get_or, sym, subst, arith}
use Rattle.std.proofs.Math.Nat.{mul-le-mul}
use Rattle.ats_bound.specs.Cursors.{Stage}
use Rattle.ats_bound.specs.Schedule.{IsOpen, whole_lanes}
use Rattle.ats_bound.proofs.Stages.{next_of}
use Rattle.ats_bound.proofs.cursors.Cursors.gain.Goals as goal

pub bounds-list-index : goal.bounds-list-index
bounds-list-index c =
    let i : ℕ = c.args.lane in
    let inside : i < length (whole_lanes c.self.inside.lanes.items) = subst (λ (s : Stage). i < length s.lanes) (sym c.self.view_is) c.requires.inside in
    let more : IsOpen (whole_lanes c.self.inside.lanes.items) c.self.inside.counts.items i = subst (λ (s : Stage). IsOpen s.lanes s.cut i) (sym c.self.view_is) c.requires.more in
    (next_of c.self.inside.lanes.items c.self.inside.counts.items i c.index.result.now c.index-list.result.now c.self.invariant.stands inside more c.index.ensures c.index-list.ensures).space

pub overflow_mul-result : goal.overflow_mul-result
overflow_mul-result c =
    let i : ℕ = c.args.lane in
    let inside : i < length (whole_lanes c.self.inside.lanes.items) = subst (λ (s : Stage). i < length s.lanes) (sym c.self.view_is) c.requires.inside in
    let more : IsOpen (whole_lanes c.self.inside.lanes.items) c.self.inside.counts.items i = subst (λ (s : Stage). IsOpen s.lanes s.cut i) (sym c.self.view_is) c.requires.more in
    let next = next_of c.self.inside.lanes.items c.self.inside.counts.items i c.index.result.now c.index-list.result.now c.self.invariant.stands inside more c.index.ensures c.index-list.ensures in
    let impact : (get_or c.index-list.result.now.entries.now c.index.result.now (record { doc = 0; impact = 0 })).impact ≤ 65535 = omega arith in
    omega (arith, mul-le-mul next.whole.weighted.1 impact)

pub returns-clause-few : goal.returns-clause-few
returns-clause-few c =
    let i : ℕ = c.args.lane in
    let inside : i < length (whole_lanes c.self.inside.lanes.items) = subst (λ (s : Stage). i < length s.lanes) (sym c.self.view_is) c.requires.inside in
    let more : IsOpen (whole_lanes c.self.inside.lanes.items) c.self.inside.counts.items i = subst (λ (s : Stage). IsOpen s.lanes s.cut i) (sym c.self.view_is) c.requires.more in
    let next = next_of c.self.inside.lanes.items c.self.inside.counts.items i c.index.result.now c.index-list.result.now c.self.invariant.stands inside more c.index.ensures c.index-list.ensures in
    let impact : (get_or c.index-list.result.now.entries.now c.index.result.now (record { doc = 0; impact = 0 })).impact ≤ 65535 = omega arith in
    omega (arith, mul-le-mul next.whole.weighted.1 impact)
