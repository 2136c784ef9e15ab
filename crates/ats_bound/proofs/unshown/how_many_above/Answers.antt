use Rattle.std.proofs.Common.{ℕ, get_or, arith}
use Rattle.ats_bound.specs.Cursors.{shown_on}
use Rattle.ats_bound.proofs.Crowded.{one_above}
use Rattle.ats_bound.proofs.unshown.how_many_above.Goals as goal
use Rattle.ats_bound.proofs.unshown.how_many_above.Goals.{then-next-slot+then-is_above, else-next-slot}

-- one more is counted in a later slot; else count and next stay
pub loop-slot-preserved : goal.loop-slot-preserved
loop-slot-preserved c = elim c.if-next-slot.branch [
  | then-next-slot+then-is_above w ↦
      let slot : ℕ = get_or c.args.slots.now c.loop-slot.slot-index 0 in
      rw (w.count-is, w.next-is) (record {
        few = omega (arith, c.loop-slot.invariant.few);
        inside = omega (arith, w.is_above.ensures.inside w.if-is_above.true);
        counted =
            one_above c.args.score (shown_on c.args.cursors.now) c.args.known.now c.loop-slot.count c.loop-slot.next slot w.if-next-slot.true
            (w.is_above.ensures.inside w.if-is_above.true) (w.is_above.ensures.above w.if-is_above.true) c.loop-slot.invariant.counted;
      })
  | else-next-slot w ↦ rw (w.count-is, w.next-is) (record {
    few = omega (arith, c.loop-slot.invariant.few);
    inside = c.loop-slot.invariant.inside;
    counted = c.loop-slot.invariant.counted;
  })
]
