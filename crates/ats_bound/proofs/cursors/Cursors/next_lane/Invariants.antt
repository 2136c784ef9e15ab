use Rattle.ats_bound.specs.Cursors.{shown_on}
use Rattle.ats_bound.proofs.Greatest.{IsGreatest}
use Rattle.ats_bound.proofs.cursors.Cursors.next_lane.Given as goal

abbrev pub invariant-loop-i : goal.invariant-loop-i
invariant-loop-i l = IsGreatest (shown_on l.self) l.i l.place l.greatest
