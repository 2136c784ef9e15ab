use Rattle.std.proofs.Common.{ℕ, List, arith}
use Rattle.ats_lists.specs.Inner.Gathered.{AreNumbered}
use Rattle.ats_lists.proofs.NumberLemmas.{numbered_moved}
use Rattle.ats_lists.proofs.numbering.Numbering.into_places.Goals as goal

pub together-requires-clause-inside : goal.together-requires-clause-inside
together-requires-clause-inside c k d inside =
    let terms : List (List ℕ) = c.self.inside.terms.items in
    let sorted : List (List ℕ × ℕ) = c.sort_unstable.new.self.items in
    let are : AreNumbered terms sorted = numbered_moved terms c.in_ok-sorted.sorted.items sorted c.sort_unstable.ensures.permutation c.in_ok-sorted.ensures in
    omega (arith, (are.each k d inside).0, are.size)

pub returns-clause-places : goal.returns-clause-places
returns-clause-places c =
    let terms : List (List ℕ) = c.self.inside.terms.items in
    let sorted : List (List ℕ × ℕ) = c.sort_unstable.new.self.items in
    rw (← c.self.view_is) (c.in_ok-made.ensures.places terms
    (numbered_moved terms c.in_ok-sorted.sorted.items sorted c.sort_unstable.ensures.permutation c.in_ok-sorted.ensures))
