use Rattle.std.proofs.Common.{◌≡◌, ◌++◌, [], length, map}
use Rattle.std.specs.Vec.Iter.{into_iter_items}
use Rattle.ats_lists.proofs.gathering.empty_lists.Given as goal

abbrev pub invariant-loop-logged : goal.invariant-loop-logged
invariant-loop-logged l = length l.counts.items ≡ length l.terms.items

-- the terms so far have no entry
abbrev pub invariant-loop-term : goal.invariant-loop-term
invariant-loop-term l = record {
  made : l.empty_lists.items ++ map (λ term. (term, [])) (into_iter_items l.term-iterator) ≡ map (λ term. (term, [])) l.fn.terms.items;
  size : length l.counts.items ≡ length l.fn.terms.items;
}
