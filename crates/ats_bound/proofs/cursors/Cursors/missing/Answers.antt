use Rattle.std.proofs.Common.{◌≡◌, ◌<◌, ℕ, List, length, get_or, ap, ◌∙◌, subst, arith, take_all}
use Rattle.ats_bound.specs.Cut.{ShownLane, missing, rest}
use Rattle.ats_bound.specs.Cursors.{Stage, shown_on}
use Rattle.ats_bound.specs.Inner.Cursors.{AreRests}
use Rattle.ats_bound.proofs.Shown.{no_shown}
use Rattle.ats_bound.proofs.Stages.{digits_after, missing_even, missing_odd, rest_on, rests_size, stage_size}
use Rattle.ats_bound.proofs.cursors.Cursors.missing.Goals as goal
use Rattle.ats_bound.proofs.cursors.Cursors.missing.Goals.{then-digits-eq0, else-digits-eq0}

pub overflow_add-sum : goal.overflow_add-sum
overflow_add-sum c =
    let stage : Stage = c.args.self.now in
    let are : AreRests stage c.self.inside.rests.items c.self.inside.threshold = subst (λ (s : Stage). AreRests s c.self.inside.rests.items c.self.inside.threshold) c.self.view_is c.self.invariant in
    let size : length c.deref-rest-items.result.now ≡ length stage.lanes = ap length c.deref-rest-items.ensures.value ∙ rests_size stage c.self.inside.rests.items c.self.inside.threshold are in
    omega (arith, size, are.stands.whole.few, c.loop-rest.invariant.few, c.type_inv.rest-items c.loop-rest.rest-index)

pub loop-rest-preserved : goal.loop-rest-preserved
loop-rest-preserved c =
    let stage : Stage = c.args.self.now in
    let all : List ShownLane = shown_on stage in
    let are : AreRests stage c.self.inside.rests.items c.self.inside.threshold = subst (λ (s : Stage). AreRests s c.self.inside.rests.items c.self.inside.threshold) c.self.view_is c.self.invariant in
    let size : length c.deref-rest-items.result.now ≡ length stage.lanes = ap length c.deref-rest-items.ensures.value ∙ rests_size stage c.self.inside.rests.items c.self.inside.threshold are in
    let i : ℕ = c.loop-rest.rest-index in
    let inside : i < length stage.lanes = omega (arith, size) in
    let there : i < length all = omega (arith, inside, stage_size stage are.stands) in
    let amount : ℕ = get_or c.deref-rest-items.result.now i 0 in
    let fits = c.type_inv.rest-items i in
    let here : amount ≡ rest (get_or all i no_shown) = ap (λ (rs : List ℕ). get_or rs i 0) c.deref-rest-items.ensures.value ∙ rest_on stage c.self.inside.rests.items c.self.inside.threshold i no_shown are inside in
    record {
      sum = λ doc is. elim c.if-digits-eq0.branch [
        | then-digits-eq0 w ↦ rw w.sum-is (missing_even all doc i c.loop-rest.digits c.loop-rest.sum amount no_shown there w.if-digits-eq0.true (c.loop-rest.invariant.digits doc is) (c.loop-rest.invariant.sum doc is) here)
        | else-digits-eq0 w ↦ rw w.sum-is (missing_odd all doc i c.loop-rest.digits c.loop-rest.sum no_shown there w.if-digits-eq0.false (c.loop-rest.invariant.digits doc is) (c.loop-rest.invariant.sum doc is))
      ];
      digits = λ doc is. digits_after all doc i c.loop-rest.digits no_shown there (c.loop-rest.invariant.digits doc is);
      few = elim c.if-digits-eq0.branch [
        | then-digits-eq0 w ↦ omega (arith, w.sum-is, c.loop-rest.invariant.few, fits)
        | else-digits-eq0 w ↦ omega (arith, w.sum-is, c.loop-rest.invariant.few)
      ];
    }

pub returns-clause-sum : goal.returns-clause-sum
returns-clause-sum c = λ doc is.
    let stage : Stage = c.args.self.now in
    let all : List ShownLane = shown_on stage in
    let are : AreRests stage c.self.inside.rests.items c.self.inside.threshold = subst (λ (s : Stage). AreRests s c.self.inside.rests.items c.self.inside.threshold) c.self.view_is c.self.invariant in
    let size : length c.deref-rest-items.result.now ≡ length stage.lanes = ap length c.deref-rest-items.ensures.value ∙ rests_size stage c.self.inside.rests.items c.self.inside.threshold are in
    c.loop-rest.invariant.sum doc is ∙ ap (λ (cursors : List ShownLane). missing cursors doc) (take_all c.loop-rest.rest-index all (omega (arith, size, stage_size stage are.stands)))

pub returns-clause-few : goal.returns-clause-few
returns-clause-few c =
    let stage : Stage = c.args.self.now in
    let are : AreRests stage c.self.inside.rests.items c.self.inside.threshold = subst (λ (s : Stage). AreRests s c.self.inside.rests.items c.self.inside.threshold) c.self.view_is c.self.invariant in
    let size : length c.deref-rest-items.result.now ≡ length stage.lanes = ap length c.deref-rest-items.ensures.value ∙ rests_size stage c.self.inside.rests.items c.self.inside.threshold are in
    omega (arith, size, are.stands.whole.few, c.loop-rest.invariant.few)
