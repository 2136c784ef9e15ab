use Rattle.std.proofs.Common.{take}
use Rattle.ats_honest.specs.Documents.{IsTermSpot}
use Rattle.ats_honest.specs.Terms.{HaveSpots}
use Rattle.ats_prover.proofs.terms_section.keep_spots.Given as goal

-- the spots of the terms so far
abbrev pub invariant-loop-i : goal.invariant-loop-i
invariant-loop-i l = HaveSpots (IsTermSpot l.terms) (take l.i l.present) l.spots.items
