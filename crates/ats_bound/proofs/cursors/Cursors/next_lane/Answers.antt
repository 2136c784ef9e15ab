use Rattle.std.proofs.Common.{◌≡◌, ◌<◌, ℕ, List, length, get_or, ap, ◌∙◌, subst, subst₂, refl, arith}
use Rattle.ats_bound.specs.Cut.{ShownLane, rest}
use Rattle.ats_bound.specs.Cursors.{Stage, shown_on}
use Rattle.ats_bound.specs.Inner.Cursors.{AreRests}
use Rattle.ats_bound.specs.Schedule.{IsNextLane}
use Rattle.ats_bound.proofs.AllShown.{all_shown, not_all_shown}
use Rattle.ats_bound.proofs.Greatest.{IsGreatest, greater, next_at, no_greater, none_left}
use Rattle.ats_bound.proofs.Stages.{rest_on, rests_size, stage_size}
use Rattle.ats_bound.proofs.cursors.Cursors.next_lane.Goals as goal
use Rattle.ats_bound.proofs.cursors.Cursors.next_lane.Goals.{then-rest-greatest, else-rest-greatest}

pub loop-i-preserved : goal.loop-i-preserved
loop-i-preserved c =
    let stage : Stage = c.args.self.now in
    let are : AreRests stage c.self.inside.rests.items c.self.inside.threshold = subst (λ (s : Stage). AreRests s c.self.inside.rests.items c.self.inside.threshold) c.self.view_is c.self.invariant in
    let i : ℕ = c.loop-i.i in
    let amount : ℕ = get_or c.deref-rest-items.result.now i 0 in
    let size : length c.deref-rest-items.result.now ≡ length stage.lanes = ap length c.deref-rest-items.ensures.value ∙ rests_size stage c.self.inside.rests.items c.self.inside.threshold are in
    let inside : i < length stage.lanes = omega (arith, size) in
    let here : (d : ShownLane) → amount ≡ rest (get_or (shown_on stage) i d) = λ d. ap (λ (rs : List ℕ). get_or rs i 0) c.deref-rest-items.ensures.value ∙ rest_on stage c.self.inside.rests.items c.self.inside.threshold i d are inside in
    elim c.if-rest-greatest.branch [
      | then-rest-greatest w ↦ rw (w.place-is, w.greatest-is) (greater (shown_on stage) i c.loop-i.place c.loop-i.greatest amount c.loop-i.invariant here w.if-rest-greatest.true)
      | else-rest-greatest w ↦ rw (w.place-is, w.greatest-is) (no_greater (shown_on stage) i c.loop-i.place c.loop-i.greatest amount c.loop-i.invariant here w.if-rest-greatest.false)
    ]

pub overflow_cast-result : goal.overflow_cast-result
overflow_cast-result c =
    let stage : Stage = c.args.self.now in
    let are : AreRests stage c.self.inside.rests.items c.self.inside.threshold = subst (λ (s : Stage). AreRests s c.self.inside.rests.items c.self.inside.threshold) c.self.view_is c.self.invariant in
    let size : length c.deref-rest-items.result.now ≡ length stage.lanes = ap length c.deref-rest-items.ensures.value ∙ rests_size stage c.self.inside.rests.items c.self.inside.threshold are in
    let some : 0 < c.loop-i.greatest = omega arith in
    omega (arith, size, are.stands.whole.few, c.loop-i.invariant.inside some)

pub returns-then-greatest-eq0-clause-next : goal.returns-then-greatest-eq0-clause-next
returns-then-greatest-eq0-clause-next c =
    let stage : Stage = c.args.self.now in
    let are : AreRests stage c.self.inside.rests.items c.self.inside.threshold = subst (λ (s : Stage). AreRests s c.self.inside.rests.items c.self.inside.threshold) c.self.view_is c.self.invariant in
    let size : length c.deref-rest-items.result.now ≡ length stage.lanes = ap length c.deref-rest-items.ensures.value ∙ rests_size stage c.self.inside.rests.items c.self.inside.threshold are in
    let end : c.loop-i.i ≡ length (shown_on stage) = omega (arith, size, stage_size stage are.stands) in
    let nothing : c.loop-i.greatest ≡ 0 = omega arith in
    none_left (shown_on stage) c.loop-i.place (subst₂ (λ (n g : ℕ). IsGreatest (shown_on stage) n c.loop-i.place g) end nothing c.loop-i.invariant)

pub returns-then-greatest-eq0-clause-whole : goal.returns-then-greatest-eq0-clause-whole
returns-then-greatest-eq0-clause-whole c =
    let stage : Stage = c.args.self.now in
    let are : AreRests stage c.self.inside.rests.items c.self.inside.threshold = subst (λ (s : Stage). AreRests s c.self.inside.rests.items c.self.inside.threshold) c.self.view_is c.self.invariant in
    let size : length c.deref-rest-items.result.now ≡ length stage.lanes = ap length c.deref-rest-items.ensures.value ∙ rests_size stage c.self.inside.rests.items c.self.inside.threshold are in
    let end : c.loop-i.i ≡ length (shown_on stage) = omega (arith, size, stage_size stage are.stands) in
    let nothing : c.loop-i.greatest ≡ 0 = omega arith in (
      λ none. all_shown stage c.loop-i.place are.stands (subst₂ (λ (n g : ℕ). IsGreatest (shown_on stage) n c.loop-i.place g) end nothing c.loop-i.invariant),
      λ all. refl,
    )

pub returns-else-greatest-eq0-clause-whole : goal.returns-else-greatest-eq0-clause-whole
returns-else-greatest-eq0-clause-whole c =
    let stage : Stage = c.args.self.now in
    let are : AreRests stage c.self.inside.rests.items c.self.inside.threshold = subst (λ (s : Stage). AreRests s c.self.inside.rests.items c.self.inside.threshold) c.self.view_is c.self.invariant in
    let size : length c.deref-rest-items.result.now ≡ length stage.lanes = ap length c.deref-rest-items.ensures.value ∙ rests_size stage c.self.inside.rests.items c.self.inside.threshold are in
    let end : c.loop-i.i ≡ length stage.lanes = omega (arith, size) in
    let some : 0 < c.loop-i.greatest = omega arith in
    let next : IsNextLane stage.lanes stage.cut c.loop-i.place =
    next_at stage.lanes stage.cut c.loop-i.place c.loop-i.greatest are.stands.cut
    (subst (λ (n : ℕ). IsGreatest (shown_on stage) n c.loop-i.place c.loop-i.greatest) end c.loop-i.invariant) some in
    (λ none. absurd (cc), λ all. absurd (not_all_shown stage c.loop-i.place are.stands next all))

pub returns-else-greatest-eq0-clause-next : goal.returns-else-greatest-eq0-clause-next
returns-else-greatest-eq0-clause-next c =
    let stage : Stage = c.args.self.now in
    let are : AreRests stage c.self.inside.rests.items c.self.inside.threshold = subst (λ (s : Stage). AreRests s c.self.inside.rests.items c.self.inside.threshold) c.self.view_is c.self.invariant in
    let size : length c.deref-rest-items.result.now ≡ length stage.lanes = ap length c.deref-rest-items.ensures.value ∙ rests_size stage c.self.inside.rests.items c.self.inside.threshold are in
    let end : c.loop-i.i ≡ length stage.lanes = omega (arith, size) in
    let some : 0 < c.loop-i.greatest = omega arith in
    next_at stage.lanes stage.cut c.loop-i.place c.loop-i.greatest are.stands.cut
    (subst (λ (n : ℕ). IsGreatest (shown_on stage) n c.loop-i.place c.loop-i.greatest) end c.loop-i.invariant) some
