-- Where a walk with random access ends.
use Rattle.std.specs.Prelude.{◌≡◌, ◌⊎◌, ℕ, List}
use Rattle.ats_bound.specs.Cursors.{IsStage}
use Rattle.ats_bound.specs.Cut.{threshold}
use Rattle.ats_bound.specs.Floors.{IsWithinBy, floors_of_share}
use Rattle.ats_bound.specs.Inner.Stopped.{IsReached}
use Rattle.ats_bound.specs.Schedule.{AreAllShown, AreBracketsBy, Bounding, CanSettleBy, WholeLane, shown}
use Rattle.ats_bound.specs.Scored.{ScoredStanding}
use Rattle.ats_tra.specs.declared.walking.End.{End}
use Rattle.ats_tra.specs.declared.walking.End.TheVariants.{Settled, Within}

-- how many rows its answer may have
abbrev pub rows_of : End → ℕ
rows_of (Settled top) = top
rows_of (Within share) = share.rows

-- it ends at the cut
abbrev pub EndsAt : Bounding → List WholeLane → End → List ℕ → Type 0
EndsAt bounds lanes (Settled top) cut = CanSettleBy bounds lanes top cut
EndsAt bounds lanes (Within share) cut = IsWithinBy bounds lanes (floors_of_share share) cut

-- the walk is at the first cut at which it ends, or it ends at no cut before the last, and is there
pub record HasRun (bounds : Bounding) (lanes : List WholeLane) (end : End) (walk : ScoredStanding) : Type 0 where
  pub lanes_are : walk.stage.lanes ≡ lanes
  pub rows : walk.rows ≡ rows_of end
  pub stands : IsStage walk.stage
  pub brackets : AreBracketsBy bounds (shown lanes walk.stage.cut) walk.brackets
  pub reached : IsReached (EndsAt bounds lanes end) lanes walk.stage.cut
  pub ended : EndsAt bounds lanes end walk.stage.cut
      ⊎ ((threshold (shown lanes walk.stage.cut) ≡ 0) × AreAllShown (shown lanes walk.stage.cut))
