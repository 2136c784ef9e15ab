use Rattle.std.proofs.Common.{◌≡◌, ℕ, ◌<◌, ◌≤◌}
use Rattle.ats_impact.specs.Rank.{times}
use Rattle.ats_bound.specs.Settled.{bracket_at}
use Rattle.ats_bound.proofs.settling.rest_is_within.Given as goal

abbrev pub invariant-loop-place : goal.invariant-loop-place
invariant-loop-place l = (i : ℕ) → i < l.place → times i l.picks ≡ 0 → (bracket_at l.brackets i).hi ≤ l.score
