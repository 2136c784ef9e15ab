-- A walk in which the score of each document that an entry names is known.
use Rattle.std.specs.Prelude.{◌≡◌, ◌≢◌, ◌<◌, ℕ, List, [], length, slice_index, slice_index_or}
use Rattle.ats_bound.specs.declared.bracket.Bracket.{Bracket}
use Rattle.ats_bound.specs.Cursors.{Stage}
use Rattle.ats_bound.specs.Schedule.{Bounding, WholeLane}

-- the state of the walk, how many rows the answer may have, and the brackets of the met documents
pub record ScoredStanding : Type 0 where
  pub stage : Stage
  pub rows : ℕ
  pub brackets : List Bracket

-- the bracket of a document whose score is known
abbrev pub exact : ℕ → ℕ → Bracket
exact doc score = record { doc = doc; lo = score; hi = score }

-- brackets from the scores of documents, whatever is shown
abbrev pub exactly : (ℕ → ℕ) → Bounding
exactly score lanes doc = exact doc (score doc)

-- the document that the first entry of list i names
abbrev pub first_document : List WholeLane → ℕ → ℕ
first_document lanes i = (slice_index_or (slice_index_or lanes i (record { coefficient = 0; entries = [] })).entries
    0 (record { doc = 0; impact = 0 })).doc

-- each document that a first entry names has the first score that is given for it
abbrev pub AreFirstScores : (ℕ → ℕ) → List WholeLane → List ℕ → Type 0
AreFirstScores score lanes scores =
    (i : ℕ) → i < length lanes → ((j : ℕ) → j < i → first_document lanes j ≢ first_document lanes i)
    → score (first_document lanes i) ≡ slice_index scores i
