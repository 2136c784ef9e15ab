use Rattle.std.proofs.Common.{◌≡◌, ◌<◌, ◌++◌, ℕ, List, length, get_or, map}
use Rattle.std.specs.Vec.Iter.{into_iter_items}
use Rattle.ats_lists.proofs.numbering.numbered.Given as goal

-- the terms so far have their places
abbrev pub invariant-loop-term : goal.invariant-loop-term
invariant-loop-term l = record {
  terms : map (λ pair. pair.0) l.all.items ++ into_iter_items l.term-iterator ≡ l.fn.terms.items;
  places : (n : ℕ) (d : List ℕ × ℕ) → n < length l.all.items → (get_or l.all.items n d).1 ≡ n;
}
