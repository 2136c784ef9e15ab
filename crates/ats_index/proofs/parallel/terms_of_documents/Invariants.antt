use Rattle.std.proofs.Common.{◌≡◌, ◌≤◌, length, take, drop}
use Rattle.std.specs.Vec.Iter.{into_iter_items}
use Rattle.ats_index.specs.Inner.Parts.{all_counts, all_terms}
use Rattle.ats_index.proofs.parallel.terms_of_documents.Given as goal

-- the terms of the documents so far, and the counted terms of those that are left
abbrev pub invariant-loop-counts : goal.invariant-loop-counts
invariant-loop-counts l = record {
  made : l.made.items ≡ take l.doc (all_terms l.collection);
  left : into_iter_items l.counts-iterator ≡ drop l.doc (all_counts l.collection);
  within : l.doc ≤ length l.collection;
}
