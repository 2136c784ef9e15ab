use Rattle.std.proofs.Common.{◌<◌, ℕ, List, length}
use Rattle.std.specs.List.{All}
use Rattle.std.specs.List.Sorted.{IsStrictlySortedBy}
use Rattle.std.specs.Vec.Iter.{into_iter_items}
use Rattle.ats_terms.specs.Query.{byte_cmp}
use Rattle.ats_lists.specs.Inner.Gathered.{AreNumbered}
use Rattle.ats_lists.proofs.NumberLemmas.{ArePlaced, Ascend, NoneBelow}
use Rattle.ats_lists.proofs.numbering.together.Given as goal

-- the terms so far, and what is left
abbrev pub invariant-loop-term : goal.invariant-loop-term
invariant-loop-term l = record {
  rises : IsStrictlySortedBy byte_cmp l.terms.items;
  up : Ascend (into_iter_items l.term-iterator);
  below : All (NoneBelow (into_iter_items l.term-iterator)) l.terms.items;
  inside : All (λ pair. pair.1 < length l.places.items) (into_iter_items l.term-iterator);
  placed : (old : List (List ℕ)) → AreNumbered old l.fn.sorted.items
      → ArePlaced old (into_iter_items l.term-iterator) l.terms.items l.places.items;
}
