use Rattle.std.proofs.Common.{◌≡◌, ◌+◌, ◌-◌, ◌/◌, ◌∙◌, ap, sym, subst, arith}
use Rattle.ats_terms.specs.declared.spot.Spot.TheVariants.{At}
use Rattle.ats_terms.specs.Order.{IsBelow}
use Rattle.ats_terms.proofs.Counting.{equal_from}
use Rattle.ats_terms.proofs.Order.{above_from}
use Rattle.ats_terms.proofs.Sentinels.{low_below, high_above}
use Rattle.ats_terms.proofs.Standing.{stands_once, stands_nowhere, lies_between}
use Rattle.ats_terms.proofs.finding.find.Given as given
use Rattle.ats_terms.proofs.finding.find.Goals as goal

pub halves-init : goal.halves-init
halves-init g c =
    let at = g.S.SortedTerms.at c.args.terms.now in
    let rise = c.positions-above.ensures.rise in
    let term = c.args.term.now in
    let last : c.positions-above.result - 1 ≡ g.S.SortedTerms.count c.args.terms.now + 1 = omega (arith, c.positions-above.ensures.value) in
    record {
      rises = omega (arith, c.positions-above.ensures.value);
      within = omega (arith, c.positions-above.ensures.value);
      low = subst (λ low. IsBelow low term) (sym rise.low) (low_below term c.requires.some);
      high = subst (λ high. IsBelow term high) (sym (ap at last ∙ rise.high)) (high_above term c.requires.some c.requires.front);
    }

-- the term in the middle
read : (g : given.Over) (c : goal.In-Equal g)
    → g.S.SortedTerms.at c.args.terms.now (c.halves.below + (c.halves.above - c.halves.below) / 2) ≡ c.args.term.now
read g c = sym c.term_at.ensures ∙ sym (equal_from c.args.term.now c.term_at.result.now (sym c.in-Equal.ensures))

pub returns-in-Equal-clause-spot : goal.returns-in-Equal-clause-spot
returns-in-Equal-clause-spot g c = record {
  some = omega arith;
  within = omega (arith, c.halves.invariant.within);
  same = read g c;
}

pub returns-in-Equal-clause-only : goal.returns-in-Equal-clause-only
returns-in-Equal-clause-only g c p inside same =
    ap At (stands_once (g.S.SortedTerms.at c.args.terms.now) (g.S.SortedTerms.count c.args.terms.now) c.positions-above.ensures.rise c.args.term.now
    (c.halves.below + (c.halves.above - c.halves.below) / 2) p (omega (arith, c.halves.invariant.within)) inside (read g c) same)

pub halves-preserved : goal.halves-preserved
halves-preserved g c = record {
  rises = omega arith;
  within = c.halves.invariant.within;
  low = subst (λ term. IsBelow term c.args.term.now) c.term_at.ensures (above_from c.args.term.now c.term_at.result.now (sym c.in-Greater.ensures));
  high = c.halves.invariant.high;
}

next : (g : given.Over) (c : goal.After-halves g) → IsBelow c.args.term.now (g.S.SortedTerms.at c.args.terms.now (c.halves.below + 1))
next g c =
    let is : c.halves.above ≡ c.halves.below + 1 = omega arith in
    subst (λ n. IsBelow c.args.term.now (g.S.SortedTerms.at c.args.terms.now n)) is c.halves.invariant.high

pub returns-clause-spot : goal.returns-clause-spot
returns-clause-spot g c =
    lies_between (g.S.SortedTerms.at c.args.terms.now) (g.S.SortedTerms.count c.args.terms.now) c.positions-above.ensures.rise c.args.term.now c.halves.below
    (omega (arith, c.halves.invariant.within)) c.halves.invariant.low (next g c)

pub returns-clause-only : goal.returns-clause-only
returns-clause-only g c p inside same =
    absurd (stands_nowhere (g.S.SortedTerms.at c.args.terms.now) (g.S.SortedTerms.count c.args.terms.now) c.positions-above.ensures.rise c.args.term.now c.halves.below
    (omega (arith, c.halves.invariant.within)) c.halves.invariant.low (next g c) p inside same)
