-- Beside specs/Lists: what only the functions of this room promise one another.
use Rattle.std.specs.Prelude.{◌≤◌, List}
use Rattle.std.specs.List.{All}
use Rattle.std.specs.List.Sorted.{IsStrictlySortedBy}
use Rattle.std.specs.Ordering.{nat_cmp}
use Rattle.std.specs.declared.cmp.Ordering.{Ordering}
use Rattle.ats_postings.specs.declared.entry.Entry.{Entry}

-- by document
abbrev pub doc_cmp : Entry → Entry → Ordering
doc_cmp a b = nat_cmp a.doc b.doc

-- entries in the order of documents, with possible impacts
pub record AreGathered (entries : List Entry) : Type 0 where
  pub rise : IsStrictlySortedBy doc_cmp entries
  pub impacts : All (λ entry. (1 ≤ entry.impact) × (entry.impact ≤ 2200)) entries
