use Rattle.std.proofs.Common.{◌∙◌, [], length, ap, arith, zero-add}
use Rattle.std.proofs.lemmas.List.Sorted.{length_permutation}
use Rattle.ats_terms.specs.Query.{counted}
use Rattle.ats_terms.proofs.Counting.{all_weigh, counted_counts}
use Rattle.ats_terms.proofs.Unique.{counted_permuted, few_pairs}
use Rattle.ats_terms.proofs.counts.TermCounts.of.Goals as goal

pub returns-clause-counted : goal.returns-clause-counted
returns-clause-counted c =
    c.in_ok-made.ensures ∙ ap counted c.deref.ensures.value
    ∙ counted_permuted c.args.terms.now c.in_ok-sorted.sorted.items c.in_ok-sorted.ensures.same

pub returns-clause-counts : goal.returns-clause-counts
returns-clause-counts c = rw (returns-clause-counted c) (counted_counts c.args.terms.now)

pub returns-clause-sum : goal.returns-clause-sum
returns-clause-sum c = rw (returns-clause-counted c) (all_weigh c.args.terms.now [] ∙ zero-add (length c.args.terms.now))

pub returns-clause-few : goal.returns-clause-few
returns-clause-few c = omega (arith, few_pairs c.in_ok-made.made (returns-clause-counts c).some, returns-clause-sum c)

pub runs-requires-clause-few : goal.runs-requires-clause-few
runs-requires-clause-few c =
    let same = length_permutation c.args.terms.now c.in_ok-sorted.sorted.items c.in_ok-sorted.ensures.same in
    omega (arith, same, ap length c.deref.ensures.value, c.len.ensures)
