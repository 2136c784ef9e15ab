use Rattle.std.proofs.Common.{◌≡◌, ℕ, List, get_or, ap, subst, ◌∙◌, arith}
use Rattle.std.specs.Option.{unwrap_or}
use Rattle.std.specs.declared.option.Option.{Option}
use Rattle.ats_bound.specs.Inner.Best.{AreKept}
use Rattle.ats_bound.proofs.Kept.{next_reaches}
use Rattle.ats_bound.proofs.best.Best.next.Goals as goal

-- past the end of one value, the most that a value can be
abbrev most : ℕ
most = 0xffff_ffff_ffff_ffff

pub returns : goal.returns
returns c = λ all threshold best some low.
    let kept : List ℕ = c.args.self.now in
    let are : AreKept kept = subst AreKept c.self.view_is c.self.invariant in
    let is : c.unwrap_or.result ≡ get_or kept 1 most =
    c.unwrap_or.ensures ∙ ap (λ (found : Option ℕ). unwrap_or found most) c.copied.ensures ∙ c.get.ensures.lookup.4 (omega arith) most
    ∙ ap (λ (xs : List ℕ). get_or xs 1 most) (c.deref.ensures.value ∙ c.self.view_is) in
    rw is (next_reaches kept are.ascends all threshold most are.some best some (omega (arith, low)))
