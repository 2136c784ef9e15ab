use Rattle.std.proofs.Common.{◌≡◌, map, take}
use Rattle.ats_all_proof.proofs.making.one_of_each.Given as goal

-- a one for each list so far
abbrev pub invariant-loop : goal.invariant-loop
invariant-loop l = l.cut ≡ map (λ n. 1) (take l.index l.counts)
