use Rattle.std.proofs.Common.{◌≡◌, take}
use Rattle.std.specs.List.{All}
use Rattle.ats_terms.specs.Terms.{IsTerm}
use Rattle.ats_terms.proofs.counts.in_order.Given as goal

-- the terms so far
abbrev pub invariant-loop-i : goal.invariant-loop-i
invariant-loop-i l = record {
  same : l.sorted.items ≡ take l.i l.terms;
  terms : All IsTerm l.sorted.items;
}
