use Rattle.std.proofs.Common.{◌≡◌, ℕ, List, get_or, subst}
use Rattle.ats_bound.specs.Inner.Best.{AreKept}
use Rattle.ats_bound.proofs.Kept.{first_is, least_reaches}
use Rattle.ats_bound.proofs.best.Best.least.Goals as goal

pub returns : goal.returns
returns c = λ all threshold best some.
    let kept : List ℕ = c.args.self.now in
    let are : AreKept kept = subst AreKept c.self.view_is c.self.invariant in
    let first : c.index.result.now ≡ get_or kept 0 0 = first_is c.self.inside.values.items kept c.index.result.now c.self.view_is c.self.invariant.some c.index.ensures in
    rw first (least_reaches kept are.ascends all threshold are.some best some)
