use Rattle.std.proofs.Common.{◌+◌, ◌-◌, ◌<◌}
use Rattle.ats_terms.specs.Order.{IsBelow}
use Rattle.ats_terms.proofs.finding.find.Given as goal

-- the term lies strictly between those of the two positions
abbrev pub invariant-halves : goal.invariant-halves
invariant-halves g l = record {
  rises : l.below < l.above;
  within : l.above < g.S.SortedTerms.count l.terms + 2;
  low : IsBelow (g.S.SortedTerms.at l.terms l.below) l.term;
  high : IsBelow l.term (g.S.SortedTerms.at l.terms l.above);
}

abbrev pub decreases-halves : goal.decreases-halves
decreases-halves g l = l.above - l.below
