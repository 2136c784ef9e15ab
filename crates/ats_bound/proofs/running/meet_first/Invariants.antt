use Rattle.std.proofs.Common.{◌≡◌, length}
use Rattle.ats_bound.specs.Inner.Best.{AreBest}
use Rattle.ats_bound.specs.Inner.MetDocuments.{AreMetDocuments, lows}
use Rattle.ats_bound.specs.Schedule.{shown, whole_lanes}
use Rattle.ats_bound.proofs.MetSteps.{begun_cut}
use Rattle.ats_bound.proofs.running.meet_first.Given as goal

-- the first entries of the first lists are met
abbrev pub invariant-loop-i : goal.invariant-loop-i
invariant-loop-i l = record {
  known : AreMetDocuments (shown (whole_lanes l.lanes) (begun_cut (whole_lanes l.lanes) l.i)) l.known;
  best : AreBest l.best (lows l.known);
  size : length l.best ≡ length l.initial.best;
}
