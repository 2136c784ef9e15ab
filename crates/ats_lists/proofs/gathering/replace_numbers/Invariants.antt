use Rattle.std.proofs.Common.{◌≡◌, ◌<◌, ◌≤◌, ℕ, length, get_or}
use Rattle.ats_lists.specs.Inner.Gathered.{renumbered}
use Rattle.ats_lists.specs.declared.gathering.Logged.{Logged}
use Rattle.ats_lists.proofs.gathering.replace_numbers.Given as goal

-- the entries so far have their new numbers, and the others are as they were
abbrev pub invariant-loop-i : goal.invariant-loop-i
invariant-loop-i l = record {
  size : length l.log.items ≡ length l.initial.log.items;
  done : (n : ℕ) (d : Logged) → n < l.i → get_or l.log.items n d ≡ renumbered l.numbers (get_or l.initial.log.items n d);
  left : (n : ℕ) (d : Logged) → l.i ≤ n → get_or l.log.items n d ≡ get_or l.initial.log.items n d;
}
