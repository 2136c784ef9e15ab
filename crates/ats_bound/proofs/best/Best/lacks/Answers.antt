use Rattle.std.proofs.Common.{◌≡◌, ◌-◌, ℕ, List, get_or, length, ap, ◌∙◌, subst, arith, ltb-true, rules}
use Rattle.std.proofs.lemmas.List.{get_or_default}
use Rattle.ats_bound.specs.Inner.Best.{AreKept}
use Rattle.ats_bound.proofs.Kept.{few_reached}
use Rattle.ats_bound.proofs.best.Best.lacks.Goals as goal

pub returns-then-many-kept : goal.returns-then-many-kept
returns-then-many-kept c = λ low all best.
    let kept : List ℕ = c.args.self.now in
    let are : AreKept kept = subst AreKept c.self.view_is c.self.invariant in
    let items : c.len-kept.result ≡ length c.self.inside.values.items = search rules in
    let size : c.len-kept.result ≡ length kept = items ∙ ap length c.self.view_is in
    let place : ℕ = length kept - 1 - c.args.many in
    let here : c.index.result.now ≡ get_or kept place c.index.result.now =
    c.index.ensures ∙ ap (λ (n : ℕ). get_or c.self.inside.values.items (n - 1 - c.args.many) c.index.result.now) size
    ∙ ap (λ (xs : List ℕ). get_or xs place c.index.result.now) c.self.view_is in
    let value : c.index.result.now ≡ get_or kept place 0 = here ∙ get_or_default kept place c.index.result.now 0 (omega (arith, c.if-many-kept.true, size)) in
    few_reached kept are.ascends all c.args.least c.args.many (omega (arith, c.if-many-kept.true, size)) (omega (arith, value, ltb-true _ _ low)) best
