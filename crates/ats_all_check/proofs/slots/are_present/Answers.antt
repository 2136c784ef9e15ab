use Rattle.std.proofs.Common.{sym, arith}
use Rattle.std.proofs.lemmas.Bool.{not-true, not-false}
use Rattle.ats_all_check.proofs.Present.{some_absent, one_more}
use Rattle.ats_all_check.proofs.slots.are_present.Goals as goal

pub returns-then-not-slot-clause-all : goal.returns-then-not-slot-clause-all
returns-then-not-slot-clause-all c =
    sym (some_absent c.args.proof.now.slots c.loop-i.i c.slot.result c.slot.ensures.slot (not-true c.slot.result.present c.if-not-slot.true))

pub loop-i-preserved : goal.loop-i-preserved
loop-i-preserved c = record {
  all = one_more c.args.proof.now.slots c.loop-i.i c.slot.result c.slot.ensures.slot (not-false c.slot.result.present c.if-not-slot.false) c.loop-i.invariant.all;
  cost = omega (arith, c.slot.ensures.cost, c.loop-i.invariant.cost);
}
