use Rattle.std.proofs.Common.{◌≡◌, ◌<◌, ◌^◌, ℕ, nat_cmp, length, take}
use Rattle.std.specs.Option.{is_some}
use Rattle.std.specs.List.{All, list_any}
use Rattle.std.specs.List.Sorted.{IsStrictlySortedBy}
use Rattle.std.specs.Map.{keys_of, values_of}
use Rattle.ats_bound.specs.Inner.Best.{AreBest}
use Rattle.ats_bound.specs.Cut.{names}
use Rattle.ats_bound.specs.Schedule.{first_cut, shown, whole_lanes}
use Rattle.ats_bound.specs.Scored.{AreFirstScores}
use Rattle.ats_bound.specs.Inner.Scored.{score_in}
use Rattle.ats_bound.proofs.scored.first_met.Given as goal

-- the scores of the first lanes' documents
abbrev pub invariant-loop-i : goal.invariant-loop-i
invariant-loop-i l = record {
  rise : IsStrictlySortedBy nat_cmp (keys_of l.met.entries);
  small : All (λ (pair : ℕ × ℕ). pair.1 < 2 ^ 64) l.met.entries;
  best : AreBest l.best (values_of l.met.entries);
  size : length l.best ≡ length l.fn.best;
  met : (doc : ℕ) → is_some (score_in l.met.entries doc) ≡ list_any (names doc) (take l.i (shown (whole_lanes l.lanes) (first_cut (whole_lanes l.lanes))));
  scores : (given : ℕ → ℕ) → AreFirstScores given (whole_lanes l.lanes) l.scores → All (λ (pair : ℕ × ℕ). given pair.0 ≡ pair.1) l.met.entries;
}
