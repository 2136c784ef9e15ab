use Rattle.std.proofs.Common.{◌≡◌, take}
use Rattle.std.specs.List.{flat_map}
use Rattle.ats_honest.specs.Terms.{needs}
use Rattle.ats_prover.proofs.shown.keep_all_needed.Given as goal

-- the positions of the terms so far
abbrev pub invariant-loop-spot : goal.invariant-loop-spot
invariant-loop-spot l = l.positions.items ≡ flat_map needs (take l.spot-index l.spots)
