use Rattle.std.proofs.Common.{◌≡◌, ◌≤◌, ℕ, List, get_or, refl, subst, arith}
use Rattle.ats_bound.specs.Inner.Best.{AreKept}
use Rattle.ats_bound.proofs.Kept.{added_high, added_low, first_is}
use Rattle.ats_bound.proofs.best.Best.add.Goals as goal

pub returns-then-index-value-clause-best : goal.returns-then-index-value-clause-best
returns-then-index-value-clause-best c = λ all after best same.
    let kept : List ℕ = c.args.self.now in
    let are : AreKept kept = subst AreKept c.self.view_is c.self.invariant in
    let first : c.index.result.now ≡ get_or kept 0 0 = first_is c.self.inside.values.items kept c.index.result.now c.self.view_is c.self.invariant.some c.index.ensures in
    let more : get_or kept 0 0 ≤ c.args.value = omega (arith, first, c.if-index-value.true) in
    added_high kept are.ascends c.put.new.self 0 c.args.value are.some more c.put.ensures.same all after refl best same

pub returns-else-index-value-clause-best : goal.returns-else-index-value-clause-best
returns-else-index-value-clause-best c = λ all after best same.
    let kept : List ℕ = c.args.self.now in
    let are : AreKept kept = subst AreKept c.self.view_is c.self.invariant in
    let first : c.index.result.now ≡ get_or kept 0 0 = first_is c.self.inside.values.items kept c.index.result.now c.self.view_is c.self.invariant.some c.index.ensures in
    added_low kept are.ascends all after c.args.value best same (omega (arith, first, c.if-index-value.false))
