-- Beside specs/Running: what only the functions of this room promise one another.
use Rattle.std.specs.Prelude.{◌≡◌, ◌≢◌, ◌⊎◌, ◌<◌, ◌≤◌, ◌+◌, ℕ, List, length, count_by, leb}
use Rattle.ats_bound.specs.declared.bracket.Bracket.{Bracket}
use Rattle.ats_bound.specs.declared.met_documents.Met.{Met}
use Rattle.ats_bound.specs.Inner.Best.{AreBest, count_at_least}
use Rattle.ats_bound.specs.Cut.{ShownLane, bracket}
use Rattle.ats_bound.specs.Cursors.{IsStage, Stage, shown_on}
use Rattle.ats_bound.specs.declared.span.Span.{Span}
use Rattle.ats_bound.specs.Floors.{IsInSpan, span_at}
use Rattle.ats_bound.specs.Inner.MetDocuments.{AreMetDocuments, lows, met_at}

-- `met` is what is known of each met document, and `best` the largest of their lower bounds
pub record IsRunning (stage : Stage) (rows : ℕ) (met : List Met) (best : List ℕ) : Type 0 where
  pub stands : IsStage stage
  pub known : AreMetDocuments (shown_on stage) met
  pub size : 1 ≤ rows → length best ≡ rows
  pub greatest : AreBest best (lows met)

-- the score is inside the bracket, so its document is not among the best by lower bounds and may still become one
abbrev pub IsAround : ℕ → Bracket → Type 0
IsAround score b = (b.lo < score) × (score < b.hi)

-- brackets of two documents that overlap, and one of them goes above this score: which of the two is better is still
-- open
abbrev pub DoOverlap : ℕ → Bracket → Bracket → Type 0
DoOverlap score a b = (a.doc ≢ b.doc) × (b.lo < a.hi) × (a.lo < b.hi) × ((score < a.hi) ⊎ (score < b.hi))

-- the bracket of some met document is around the score, or those of some two overlap
abbrev pub IsOpenAt : ℕ → List ShownLane → List Met → Type 0
IsOpenAt score lanes met =
    ((i : ℕ) × (i < length met) × IsAround score (bracket lanes (met_at met i).doc))
    ⊎ ((i : ℕ) × (j : ℕ) × (i < length met) × (j < length met)
    × DoOverlap score (bracket lanes (met_at met i).doc) (bracket lanes (met_at met j).doc))

-- the bracket goes above the floor and is within no span, so its document can be neither a row yet nor none
pub record IsCrossing (spans : List Span) (floor : ℕ) (b : Bracket) : Type 0 where
  pub above : floor < b.hi
  pub nowhere : (k : ℕ) → k < length spans → IsInSpan (span_at spans k) b → ⊥

-- so is the bracket of some met document
abbrev pub IsCrossingAt : List Span → ℕ → List ShownLane → List Met → Type 0
IsCrossingAt spans floor lanes met = (i : ℕ) × (i < length met) × IsCrossing spans floor (bracket lanes (met_at met i).doc)

-- how many met documents may score more than this
abbrev pub count_above : ℕ → List ShownLane → List Met → ℕ
count_above score lanes met = count_by (λ (m : Met). leb (score + 1) (bracket lanes m.doc).hi) met

-- more documents than the rows before this one may score more than any other row and the floor allow
pub record IsCrowdedAt (spans : List Span) (floor : ℕ) (lanes : List ShownLane) (met : List Met) : Type 0 where
  pub row : ℕ
  pub score : ℕ
  pub low : floor ≤ score
  pub uppers : (k : ℕ) → row ≤ k → k < length spans → (span_at spans k).upper ≤ score
  pub more : row < count_above score lanes met

-- no more documents than the rows before this one score the least that it must
pub record IsSparse (spans : List Span) (lows : List ℕ) : Type 0 where
  pub row : ℕ
  pub inside : row < length spans
  pub fewer : count_at_least (span_at spans row).lower lows ≤ row

-- what is asked of a shard is not shown
abbrev pub IsUnshownAt : List Span → ℕ → List ShownLane → List Met → Type 0
IsUnshownAt spans floor lanes met = IsCrossingAt spans floor lanes met ⊎ (IsCrowdedAt spans floor lanes met ⊎ IsSparse spans (lows met))
