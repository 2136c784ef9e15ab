use Rattle.std.proofs.Common.{◌≡◌, ◌<◌, ◌≤◌, ◌+◌, ℕ, length, get_or, sym, subst, ap, ◌∙◌, arith, get_or-set_same, length-set}
use Rattle.std.specs.List.{sum}
use Rattle.std.proofs.lemmas.List.{get_or_default}
use Rattle.ats_bound.specs.Cut.{lane_of, rest}
use Rattle.ats_bound.specs.Cursors.{Stage, lane_on}
use Rattle.ats_bound.specs.Schedule.{IsOpen, WholeLane, whole_lanes}
use Rattle.ats_bound.proofs.Stages.{next_inside, next_of, rests_after, rests_size, whole_on}
use Rattle.ats_bound.proofs.cursors.Cursors.advance.Goals as goal

pub overflow_add-index_mut : goal.overflow_add-index_mut
overflow_add-index_mut c =
    let i : ℕ = c.args.lane in
    let stage : Stage = record { lanes = whole_lanes c.self.inside.lanes.items; cut = c.self.inside.counts.items } in
    let inside : i < length stage.lanes = subst (λ (s : Stage). i < length s.lanes) (sym c.self.view_is) c.requires.inside in
    let more : IsOpen stage.lanes stage.cut i = subst (λ (s : Stage). IsOpen s.lanes s.cut i) (sym c.self.view_is) c.requires.more in
    let space : get_or stage.cut i 0 < length (lane_on stage i).entries = next_inside stage i c.self.invariant.stands inside more in
    let now : c.index_mut.result.now ≡ get_or stage.cut i 0 = c.index_mut.ensures.value ∙ get_or_default stage.cut i c.index_mut.result.now 0 (omega (arith, inside, c.self.invariant.stands.cut.size)) in
    let few : length (lane_on stage i).entries ≤ 65536 = (whole_on stage i c.self.invariant.stands inside).few in
    omega (arith, space, now, few)

pub rest-rest-requires-clause-whole : goal.rest-rest-requires-clause-whole
rest-rest-requires-clause-whole c =
    let i : ℕ = c.args.lane in
    let stage : Stage = record { lanes = whole_lanes c.self.inside.lanes.items; cut = c.self.inside.counts.items } in
    let inside : i < length stage.lanes = subst (λ (s : Stage). i < length s.lanes) (sym c.self.view_is) c.requires.inside in
    let more : IsOpen stage.lanes stage.cut i = subst (λ (s : Stage). IsOpen s.lanes s.cut i) (sym c.self.view_is) c.requires.more in
    (next_of c.self.inside.lanes.items c.self.inside.counts.items i c.index_mut.result.now c.index.result.now c.self.invariant.stands inside more c.index_mut.ensures.value c.index.ensures).whole

pub rest-rest-requires-clause-most : goal.rest-rest-requires-clause-most
rest-rest-requires-clause-most c =
    let i : ℕ = c.args.lane in
    let counts = c.self.inside.counts.items in
    let stage : Stage = record { lanes = whole_lanes c.self.inside.lanes.items; cut = c.self.inside.counts.items } in
    let inside : i < length stage.lanes = subst (λ (s : Stage). i < length s.lanes) (sym c.self.view_is) c.requires.inside in
    let more : IsOpen stage.lanes stage.cut i = subst (λ (s : Stage). IsOpen s.lanes s.cut i) (sym c.self.view_is) c.requires.more in
    let next = next_of c.self.inside.lanes.items c.self.inside.counts.items i c.index_mut.result.now c.index.result.now c.self.invariant.stands inside more c.index_mut.ensures.value c.index.ensures in
    let here : c.index-2.result.now ≡ c.index_mut.result.now + 1 = c.index-2.ensures ∙ get_or-set_same counts i (c.index_mut.result.now + 1) c.index-2.result.now (omega (arith, inside, c.self.invariant.stands.cut.size)) in
    omega (arith, here, next.space)

pub total-self-inside-requires : goal.total-self-inside-requires
total-self-inside-requires c =
    let stage : Stage = record { lanes = whole_lanes c.self.inside.lanes.items; cut = c.self.inside.counts.items } in
    let rests = c.self.inside.rests.items in
    omega (arith, ap length c.deref.ensures.value, length-set rests c.args.lane c.rest-rest.result, rests_size stage rests c.self.inside.threshold c.self.invariant, c.self.invariant.stands.whole.few)

pub invariant_of-self : goal.invariant_of-self
invariant_of-self c =
    let i : ℕ = c.args.lane in
    let counts = c.self.inside.counts.items in
    let stage : Stage = record { lanes = whole_lanes c.self.inside.lanes.items; cut = c.self.inside.counts.items } in
    let inside : i < length stage.lanes = subst (λ (s : Stage). i < length s.lanes) (sym c.self.view_is) c.requires.inside in
    let more : IsOpen stage.lanes stage.cut i = subst (λ (s : Stage). IsOpen s.lanes s.cut i) (sym c.self.view_is) c.requires.more in
    let next = next_of c.self.inside.lanes.items c.self.inside.counts.items i c.index_mut.result.now c.index.result.now c.self.invariant.stands inside more c.index_mut.ensures.value c.index.ensures in
    let here : c.index-2.result.now ≡ get_or counts i 0 + 1 = c.index-2.ensures ∙ get_or-set_same counts i (c.index_mut.result.now + 1) c.index-2.result.now (omega (arith, inside, c.self.invariant.stands.cut.size)) ∙ ap (λ n. n + 1) next.count in
    let amount : c.rest-rest.result ≡ rest (lane_of (lane_on stage i).coefficient (lane_on stage i).entries (get_or counts i 0 + 1)) =
    c.rest-rest.ensures ∙ ap (λ (lane : WholeLane). rest (lane_of lane.coefficient lane.entries c.index-2.result.now)) next.lane_is ∙ ap (λ n. rest (lane_of (lane_on stage i).coefficient (lane_on stage i).entries n)) here in
    rw next.count (rests_after stage c.self.inside.rests.items c.self.inside.threshold i c.rest-rest.result c.total-self-inside.result c.self.invariant inside more amount
    (c.total-self-inside.ensures ∙ ap sum c.deref.ensures.value))
