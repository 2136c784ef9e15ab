-- Scores from impacts that are looked up by list and document.
use Rattle.std.specs.Prelude.{◌≡◌, ◌<◌, ◌+◌, ◌*◌, ℕ, List, [], ◌∷◌, length, slice_index_or}
use Rattle.ats_postings.specs.declared.entry.Entry.{Entry}
use Rattle.ats_bound.specs.declared.bracket.Bracket.{Bracket}
use Rattle.ats_bound.specs.Cut.{ShownLane}
use Rattle.ats_bound.specs.Ranked.{impact_in}

-- an impact for each number of a list and each document
abbrev pub Table : Type 0
Table = ℕ → ℕ → ℕ

-- the score of a document by the table; the lists are counted from i on
abbrev pub looked_score_from : ℕ → Table → List ShownLane → ℕ → ℕ
looked_score_from i table [] doc = 0
looked_score_from i table (lane ∷ lanes) doc =
    lane.coefficient * table i doc + looked_score_from (i + 1) table lanes doc

abbrev pub looked_score : Table → List ShownLane → ℕ → ℕ
looked_score table lanes doc = looked_score_from 0 table lanes doc

-- the bracket of a document whose score is known
abbrev pub looked_up : Table → List ShownLane → ℕ → Bracket
looked_up table lanes doc = record { doc = doc; lo = looked_score table lanes doc; hi = looked_score table lanes doc }

-- the table has the impacts of the lists, and 0 for a document that a list does not name
abbrev pub AreImpactsOf : Table → List (List Entry) → Type 0
AreImpactsOf table lists = (i doc : ℕ) → i < length lists → table i doc ≡ impact_in doc (slice_index_or lists i [])
