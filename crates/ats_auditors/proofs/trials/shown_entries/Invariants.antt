use Rattle.std.proofs.Common.{◌≡◌, ◌+◌, ◌≤◌, ◌^◌, length, sum_by}
use Rattle.ats_proof.specs.SeenLists.{lists_of}
use Rattle.ats_proof.specs.Value.{Prefix}
use Rattle.ats_auditors.specs.Trial.{shown_entries}
use Rattle.ats_auditors.proofs.trials.shown_entries.Given as goal

-- the entries so far and those of the lists that are left
abbrev pub invariant-lists : goal.invariant-lists
invariant-lists l = record {
  sum : l.entries + sum_by (λ (p : Prefix). length p.entries) (lists_of l.lists) ≡ shown_entries l.proof;
  few : shown_entries l.proof ≤ 2 ^ 48;
  steps : l.steps + length (lists_of l.lists) ≤ 2 ^ 63 + 2 ^ 32;
}

abbrev pub decreases-lists : goal.decreases-lists
decreases-lists l = length (lists_of l.lists)
