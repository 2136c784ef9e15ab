use Rattle.std.proofs.Common.{◌≡◌, ◌≤◌, ◌*◌, ◌^◌, take, sum_by}
use Rattle.ats_impact.specs.Score.{part}
use Rattle.ats_impact.proofs.scores.score.Given as goal

-- the sum over the terms so far
abbrev pub invariant-loop-k : goal.invariant-loop-k
invariant-loop-k l = record {
  sum : l.sum ≡ sum_by (part l.collection l.document) (take l.k l.query);
  small : l.sum ≤ l.k * 2 ^ 56;
}
