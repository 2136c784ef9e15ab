-- Scores that are sums over whole lists, and brackets that contain them.
use Rattle.std.specs.Prelude.{◌≡◌, ◌<◌, ◌≤◌, ◌*◌, ◌==◌, ◌↔◌, ℕ, List, length, map, sum_by, if◌then◌else◌}
use Rattle.std.specs.List.{All}
use Rattle.ats_impact.specs.Rank.{times}
use Rattle.ats_postings.specs.Lists.{IsList}
use Rattle.ats_postings.specs.declared.entry.Entry.{Entry}
use Rattle.ats_bound.specs.declared.bracket.Bracket.{Bracket}
use Rattle.ats_bound.specs.Cut.{ShownLane, lane_of, IsMet}
use Rattle.ats_bound.specs.Settled.{bracket_at, HaveDistinctDocs}

-- a term's coefficient, its whole list, and how many entries of it are shown
pub record CutLane : Type 0 where
  pub coefficient : ℕ
  pub entries : List Entry
  pub shown : ℕ

-- a list over n documents, of which at least one entry is shown
pub record IsCutLane (n : ℕ) (lane : CutLane) : Type 0 where
  pub weighs : 1 ≤ lane.coefficient
  pub some : 1 ≤ lane.shown
  pub within : lane.shown ≤ length lane.entries
  pub list : IsList n lane.entries

-- what is shown of each lane
abbrev pub cut_of : List CutLane → List ShownLane
cut_of lanes = map (λ (lane : CutLane). lane_of lane.coefficient lane.entries lane.shown) lanes

-- the document's impact in a list, or 0 if the list does not name it
abbrev pub impact_in : ℕ → List Entry → ℕ
impact_in doc entries = sum_by (λ (entry : Entry). if entry.doc == doc then entry.impact else 0) entries

-- the score of a document by whole lists
abbrev pub whole_score : List CutLane → ℕ → ℕ
whole_score lanes doc = sum_by (λ (lane : CutLane). lane.coefficient * impact_in doc lane.entries) lanes

-- these are the scores of n documents by whole lists over them
pub record AreScores (n : ℕ) (score : ℕ → ℕ) (lanes : List CutLane) : Type 0 where
  pub each : All (IsCutLane n) lanes
  pub sums : (doc : ℕ) → doc < n → score doc ≡ whole_score lanes doc

-- the score of the bracket's document is between its bounds, and above 0
pub record HoldsScore (score : ℕ → ℕ) (bracket : Bracket) : Type 0 where
  pub lo : bracket.lo ≤ score bracket.doc
  pub hi : score bracket.doc ≤ bracket.hi
  pub scores : 0 < score bracket.doc

-- the documents of brackets
abbrev pub docs_of : List Bracket → List ℕ
docs_of brackets = map (λ (bracket : Bracket). bracket.doc) brackets

-- the brackets are those of the met documents, one for each
pub record AreOfMet (lanes : List CutLane) (brackets : List Bracket) : Type 0 where
  pub distinct : HaveDistinctDocs brackets
  pub met : (doc : ℕ) → IsMet (cut_of lanes) doc ↔ (1 ≤ times doc (docs_of brackets))

-- the documents of an answer
abbrev pub answer_of : List Bracket → List ℕ → List ℕ
answer_of brackets picks = map (λ pick. (bracket_at brackets pick).doc) picks
