use Rattle.std.proofs.Common.{◌≡◌, ◌<◌, [], length, get_or, take_all, sym, subst, ◌∙◌, arith}
use Rattle.std.specs.List.Sorted.{IsPermutation}
use Rattle.std.proofs.lemmas.List.{get_or_default, take_more}
use Rattle.std.proofs.lemmas.List.Elements.{All-push}
use Rattle.std.proofs.lemmas.List.Sorted.{All-permutation}
use Rattle.ats_terms.specs.Terms.{IsTerm}
use Rattle.ats_terms.proofs.counts.in_order.Goals as goal

pub loop-i-preserved : goal.loop-i-preserved
loop-i-preserved c =
    let terms = c.args.terms.now in
    let i = c.loop-i.i in
    let inside : i < length terms = omega (arith, c.loop-i-test.true, c.len-i-end.ensures) in
    let key : c.of.result ≡ get_or terms i [] = c.of.ensures ∙ c.get.ensures.value ∙ get_or_default terms i c.get.result.now [] inside in
    record {
      same = rw (c.in_ok-push.ensures.items, c.loop-i.invariant.same, key) (sym (take_more terms i [] inside));
      terms = rw (c.in_ok-push.ensures.items) (All-push IsTerm c.loop-i.sorted.items c.of.result c.loop-i.invariant.terms (rw c.of.ensures c.get.ensures.term));
    }

pub returns-clause-same : goal.returns-clause-same
returns-clause-same c =
    subst (λ all. IsPermutation all c.sort_unstable.new.self.items)
    (c.loop-i.invariant.same ∙ take_all c.loop-i.i c.args.terms.now (omega (arith, c.loop-i-test.false, c.len-i-end.ensures)))
    c.sort_unstable.ensures.permutation

pub returns-clause-order : goal.returns-clause-order
returns-clause-order c = c.sort_unstable.ensures.sorted

pub returns-clause-terms : goal.returns-clause-terms
returns-clause-terms c =
    All-permutation IsTerm c.loop-i.sorted.items c.sort_unstable.new.self.items c.sort_unstable.ensures.permutation c.loop-i.invariant.terms
