-- The state of a walk in the schedule.
use Rattle.std.specs.Prelude.{ℕ, List, [], slice_index, slice_index_or}
use Rattle.ats_postings.specs.declared.entry.Entry.{Entry}
use Rattle.ats_bound.specs.Cut.{ShownLane}
use Rattle.ats_bound.specs.Schedule.{AreWholeLanes, IsCut, WholeLane, shown}

-- the lists of a query, and how many entries of each are shown
pub record Stage : Type 0 where
  pub lanes : List WholeLane
  pub cut : List ℕ

-- what is shown at this stage
abbrev pub shown_on : Stage → List ShownLane
shown_on stage = shown stage.lanes stage.cut

-- the stage is a cut of whole lists
pub record IsStage (stage : Stage) : Type 0 where
  pub whole : AreWholeLanes stage.lanes
  pub cut : IsCut stage.lanes stage.cut

-- list i
abbrev pub lane_on : Stage → ℕ → WholeLane
lane_on stage i = slice_index_or stage.lanes i (record { coefficient = 0; entries = [] })

-- the entry that list i shows next
abbrev pub entry_on : Stage → ℕ → Entry
entry_on stage i = slice_index_or (lane_on stage i).entries (slice_index stage.cut i) (record { doc = 0; impact = 0 })
