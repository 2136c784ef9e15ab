use Rattle.std.proofs.Common.{take}
use Rattle.ats_honest.specs.Terms.{AreSpots}
use Rattle.ats_prover.proofs.dictionary.spots.Given as goal

-- the spots of the terms so far
abbrev pub invariant-loop-i : goal.invariant-loop-i
invariant-loop-i l = AreSpots l.dictionary (take l.i l.query) l.spots.items
