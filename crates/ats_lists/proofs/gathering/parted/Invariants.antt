use Rattle.std.proofs.Common.{◌≡◌, ◌<◌, ℕ, [], length, get_or, take}
use Rattle.ats_lists.specs.Inner.Gathered.{entries_under, term_of}
use Rattle.ats_lists.proofs.gathering.parted.Given as goal

-- the entries so far
abbrev pub invariant-loop-logged : goal.invariant-loop-logged
invariant-loop-logged l = record {
  size : length l.lists.items ≡ length l.fn.terms.items;
  entries : (n : ℕ) → n < length l.fn.terms.items → get_or l.lists.items n ([], []) ≡ (term_of l.fn.terms.items n, entries_under n (take l.logged-index l.log));
}
