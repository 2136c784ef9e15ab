-- Where a walk with no random access ends.
use Rattle.std.specs.Prelude.{◌≡◌, ◌⊎◌, ℕ, List, length, Option, Some, None}
use Rattle.ats_bound.specs.declared.span.Span.{Span}
use Rattle.ats_bound.specs.Cut.{bracket, threshold}
use Rattle.ats_bound.specs.Floors.{Floors, IsWithinBy}
use Rattle.ats_bound.specs.Inner.Stopped.{IsReached}
use Rattle.ats_bound.specs.Running.{Standing}
use Rattle.ats_bound.specs.Schedule.{AreAllShown, CanSettleBy, WholeLane, shown}

-- how many rows its answer may have: at most so many, or else one for each span
abbrev pub rows_of : Option ℕ → List Span → ℕ
rows_of (Some top) spans = top
rows_of None spans = length spans

-- it ends at the cut: some answer of at most so many rows is settled, or else the chosen one is within the floors
abbrev pub EndsAt : List WholeLane → Option ℕ → Floors → List ℕ → Type 0
EndsAt lanes (Some top) floors cut = CanSettleBy bracket lanes top cut
EndsAt lanes None floors cut = IsWithinBy bracket lanes floors cut

-- the walk is at the first cut at which it ends, or it ends at no cut before the last, and is there
pub record HasRun (lanes : List WholeLane) (top : Option ℕ) (floors : Floors) (walk : Standing) : Type 0 where
  pub lanes_are : walk.lanes ≡ lanes
  pub rows : walk.rows ≡ rows_of top floors.spans
  pub reached : IsReached (EndsAt lanes top floors) lanes walk.cut
  pub ended : EndsAt lanes top floors walk.cut ⊎ ((threshold (shown lanes walk.cut) ≡ 0) × AreAllShown (shown lanes walk.cut))
