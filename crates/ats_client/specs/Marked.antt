-- What the marks of a check say of the met documents.
use Rattle.std.specs.Prelude.{◌≡◌, ◌<◌, ◌≤◌, ◌+◌, ◌-◌, ◌^◌, ◌==◌, ℕ, List, length, nat_lt}
use Rattle.std.specs.List.{list_any}
use Rattle.ats_bound.specs.declared.work.Mark.{Mark}
use Rattle.ats_bound.specs.Work.{mark_at}
use Rattle.ats_bound.specs.Cut.{ShownLane, names, threshold}
use Rattle.ats_bound.specs.Schedule.{Bounding}
use Rattle.ats_client.specs.Groups.{met_at}

-- the least that a document scores; the part of the threshold that it cannot reach above that; and whether some lane
-- names it. The numbers are small, so that their sums do not wrap.
pub record IsMark (bounds : Bounding) (lanes : List ShownLane) (doc : ℕ) (mark : Mark) : Type 0 where
  pub least : mark.lo ≡ (bounds lanes doc).lo
  pub within : mark.held ≤ threshold lanes
  pub most : mark.lo + (threshold lanes - mark.held) ≡ (bounds lanes doc).hi
  pub named : nat_lt 0 mark.list ≡ list_any (names doc) lanes
  pub small : mark.lo < 2 ^ 48

-- one mark for each met document, in their order
pub record AreMarks (bounds : Bounding) (lanes : List ShownLane) (met : List ℕ) (marks : List Mark) : Type 0 where
  pub size : length marks ≡ length met
  pub each : (i : ℕ) → i < length met → IsMark bounds lanes (met_at met i) (mark_at marks i)

-- each mark notes whether one of these rows names its document
abbrev pub AreNoted : List ℕ → List Mark → Type 0
AreNoted rows marks = (i : ℕ) → i < length marks → (mark_at marks i).row ≡ list_any (λ index. index == i) rows
