use Rattle.std.proofs.Common.{◌≡◌, map, take}
use Rattle.ats_bound.proofs.choosing.places_of.Given as goal

abbrev pub invariant-loop-placed : goal.invariant-loop-placed
invariant-loop-placed l = l.picks ≡ map (λ p. p.place) (take l.placed-index l.all)
