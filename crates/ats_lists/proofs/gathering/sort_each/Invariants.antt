use Rattle.std.proofs.Common.{◌≡◌, ◌<◌, ◌≤◌, ℕ, [], length, get_or}
use Rattle.ats_postings.specs.Lists.{by_impact}
use Rattle.ats_lists.proofs.gathering.sort_each.Given as goal

-- the lists so far are in order, and the others as they were
abbrev pub invariant-loop-i : goal.invariant-loop-i
invariant-loop-i l = record {
  size : length l.lists.items ≡ length l.initial.lists.items;
  done : (n : ℕ) → n < l.i → get_or l.lists.items n ([], [])
      ≡ ((get_or l.initial.lists.items n ([], [])).0, by_impact 2200 (get_or l.initial.lists.items n ([], [])).1);
  left : (n : ℕ) → l.i ≤ n → get_or l.lists.items n ([], []) ≡ get_or l.initial.lists.items n ([], []);
}
