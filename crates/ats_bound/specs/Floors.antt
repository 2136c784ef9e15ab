-- When a cut shows enough for an answer of which this list is one part: as many rows as are asked, each within its span,
-- and nothing else above the floor.
use Rattle.std.specs.Prelude.{◌≡◌, ◌<◌, ◌≤◌, ℕ, List, length, replicate, slice_index_or}
use Rattle.ats_bound.specs.declared.bracket.Bracket.{Bracket}
use Rattle.ats_bound.specs.declared.share.Share.{Share}
use Rattle.ats_bound.specs.Chosen.{IsChosen}
use Rattle.ats_bound.specs.Cut.{threshold}
use Rattle.ats_bound.specs.Schedule.{AreBracketsBy, Bounding, IsFirstCut, WholeLane, shown}
use Rattle.ats_bound.specs.Settled.{IsOutside, bracket_at, row}
use Rattle.ats_bound.specs.declared.span.Span.{Span}

-- the rows that are asked, a span for each, and the floor, which nothing else may score above
pub record Floors : Type 0 where
  pub spans : List Span
  pub floor : ℕ

-- what a share asks for: each row scores at least its floor, and nothing else scores above it
abbrev pub floors_of_share : Share → Floors
floors_of_share share = record {
  spans = replicate share.rows (record { lower = share.floor; upper = 0xffff_ffff_ffff_ffff });
  floor = share.floor;
}

abbrev pub span_at : List Span → ℕ → Span
span_at spans k = slice_index_or spans k (record { lower = 0; upper = 0 })

pub record IsInSpan (span : Span) (bracket : Bracket) : Type 0 where
  pub least : span.lower ≤ bracket.lo
  pub most : bracket.hi ≤ span.upper

-- the picks are rows within the spans, and neither a bracket outside them nor the threshold is above the floor
pub record AreWithin (brackets : List Bracket) (picks : List ℕ) (threshold : ℕ) (floors : Floors) : Type 0 where
  pub many : length picks ≡ length floors.spans
  pub rows : (k : ℕ) → k < length picks → IsInSpan (span_at floors.spans k) (row brackets picks k)
  pub others : (i : ℕ) → IsOutside brackets picks i → (bracket_at brackets i).hi ≤ floors.floor
  pub unmet : threshold ≤ floors.floor

-- the chosen answer of as many rows as are asked is within the floors at the cut
pub record IsWithinBy (bounds : Bounding) (lanes : List WholeLane) (floors : Floors) (cut : List ℕ) : Type 0 where
  pub brackets : List Bracket
  pub bounded : AreBracketsBy bounds (shown lanes cut) brackets
  pub answer : List ℕ
  pub chosen : IsChosen brackets (length floors.spans) answer
  pub within : AreWithin brackets answer (threshold (shown lanes cut)) floors

-- the first cut of the schedule at which it is
abbrev pub IsFirstWithinBy : Bounding → List WholeLane → Floors → List ℕ → Type 0
IsFirstWithinBy bounds lanes floors cut = IsFirstCut (IsWithinBy bounds lanes floors) lanes cut
