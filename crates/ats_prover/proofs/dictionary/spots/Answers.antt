use Rattle.std.proofs.Common.{[], ℕ, List, subst, arith, add-one, take_all}
use Rattle.ats_dict.specs.Found.{IsSpot}
use Rattle.ats_honest.proofs.Public.{spots_more, spot_each, lowers}
use Rattle.ats_prover.proofs.dictionary.spots.Goals as goal

pub loop-i-preserved : goal.loop-i-preserved
loop-i-preserved c =
    let is = subst (λ (term : List ℕ). IsSpot c.args.dictionary.now term c.find.result) (c.term.ensures.value ([], 0)) c.find.ensures.spot in
    rw (c.in_ok-push.ensures.items, add-one)
    (spots_more (IsSpot c.args.dictionary.now) c.args.query.now c.loop-i.spots.items c.find.result c.loop-i.i ([], 0) (omega (arith, c.loop-i-test.true, c.len-i-end.ensures.value)) c.loop-i.invariant is)

pub returns-clause-spots : goal.returns-clause-spots
returns-clause-spots c = rw (take_all c.loop-i.i c.args.query.now (omega (arith, c.loop-i-test.false, c.len-i-end.ensures.value))) at c.loop-i.invariant

pub returns-clause-few : goal.returns-clause-few
returns-clause-few c = omega (arith, spot_each c.args.dictionary.now c.args.query.now c.loop-i.spots.items (returns-clause-spots c), c.len-i-end.ensures.query.few)

pub returns-clause-low : goal.returns-clause-low
returns-clause-low c = lowers c.args.dictionary.now c.args.query.now c.loop-i.spots.items c.len.ensures.holds.few (returns-clause-spots c)
