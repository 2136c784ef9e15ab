use Rattle.std.proofs.Common.{[], ℕ, List, length, subst, arith, add-one, take_all}
use Rattle.ats_honest.specs.Documents.{IsTermSpot}
use Rattle.ats_honest.proofs.Public.{lower_item, all_low, spots_each, spots_more}
use Rattle.ats_prover.proofs.terms_section.keep_spots.Goals as goal

pub loop-i-preserved : goal.loop-i-preserved
loop-i-preserved c =
    let is = subst (λ (term : List ℕ). IsTermSpot c.args.terms.now term c.spot.result) (c.term.ensures.value ([], 0)) c.spot.ensures in
    rw (c.in_ok-push.ensures.items, add-one)
    (spots_more (IsTermSpot c.args.terms.now) c.args.present.now c.loop-i.spots.items c.spot.result c.loop-i.i ([], 0) (omega (arith, c.loop-i-test.true, c.len-i-end.ensures.value)) c.loop-i.invariant is)

pub returns-clause-spots : goal.returns-clause-spots
returns-clause-spots c = rw (take_all c.loop-i.i c.args.present.now (omega (arith, c.loop-i-test.false, c.len-i-end.ensures.value))) at c.loop-i.invariant

pub returns-clause-few : goal.returns-clause-few
returns-clause-few c = omega (arith, spots_each (IsTermSpot c.args.terms.now) c.args.present.now c.loop-i.spots.items (returns-clause-spots c), c.len-i-end.ensures.value, c.len-i-end.ensures.few)

pub returns-clause-low : goal.returns-clause-low
returns-clause-low c =
    let items = c.args.terms.now in
    all_low (IsTermSpot items) (length items) (lower_item items) c.args.present.now c.loop-i.spots.items (omega (arith, c.len.ensures.holds.few)) (returns-clause-spots c)
