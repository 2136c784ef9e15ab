use Rattle.std.proofs.Common.{ℕ, List, take}
use Rattle.ats_lists.specs.Inner.Gathered.{pairs_of, HasEntries, IsLogOf}
use Rattle.ats_postings.specs.declared.entry.Entry.{Entry}
use Rattle.ats_lists.proofs.DocumentLemmas.{so_far}
use Rattle.ats_lists.proofs.gathering.Gathered.add_document.Given as goal

-- the terms so far have the document's entry
abbrev pub invariant-loop-i : goal.invariant-loop-i
invariant-loop-i l = record {
  log : IsLogOf l.numbering l.log.items;
  has : (before : List ℕ → List Entry) → HasEntries before l.fn.self
      → HasEntries (so_far before l.doc l.collection (take l.i l.counts)) (pairs_of l.numbering l.log.items);
}
