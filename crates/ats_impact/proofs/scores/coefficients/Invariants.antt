use Rattle.std.proofs.Common.{◌≡◌, ◌<◌, ◌^◌, map, take}
use Rattle.std.specs.List.{All}
use Rattle.ats_impact.specs.Score.{coefficient}
use Rattle.ats_impact.proofs.scores.coefficients.Given as goal

-- the coefficients of the terms so far
abbrev pub invariant-loop-k : goal.invariant-loop-k
invariant-loop-k l = record {
  made : l.coefficients.items ≡ map (coefficient l.collection) (take l.k l.query);
  small : All (λ c. c < 2 ^ 40) l.coefficients.items;
}
