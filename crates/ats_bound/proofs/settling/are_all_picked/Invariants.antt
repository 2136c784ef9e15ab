use Rattle.std.proofs.Common.{ℕ, ◌<◌, ◌≤◌}
use Rattle.ats_impact.specs.Rank.{times}
use Rattle.ats_bound.proofs.settling.are_all_picked.Given as goal

abbrev pub invariant-loop-place : goal.invariant-loop-place
invariant-loop-place l = (i : ℕ) → i < l.place → 1 ≤ times i l.picks
