use Rattle.std.proofs.Common.{take}
use Rattle.ats_bound.specs.Settled.{AreDistinct}
use Rattle.ats_bound.proofs.settling.are_distinct.Given as goal

abbrev pub invariant-loop-k : goal.invariant-loop-k
invariant-loop-k l = AreDistinct (take l.k l.picks)
