-- A cut of the lists of a query's terms: what is shown of each list, and the bounds of scores that follow.
use Rattle.std.specs.Prelude.{◌≡◌, ◌+◌, ◌-◌, ◌*◌, ◌==◌, ℕ, Bool, true, List, length, map, take, sum_by, slice_index, if◌then◌else◌}
use Rattle.std.specs.List.{list_any}
use Rattle.ats_postings.specs.declared.entry.Entry.{Entry}
use Rattle.ats_bound.specs.declared.bracket.Bracket.{Bracket}

-- a term's coefficient, the length of its list, and the first entries of the list, which are shown
pub record ShownLane : Type 0 where
  pub coefficient : ℕ
  pub total : ℕ
  pub shown : List Entry

-- the first k entries of a list are shown
abbrev pub lane_of : ℕ → List Entry → ℕ → ShownLane
lane_of coefficient entries k = record { coefficient = coefficient; total = length entries; shown = take k entries }

-- the largest impact that an entry that is not shown can have: 0 if all are shown, else the impact of the last shown
abbrev pub rest_impact : ShownLane → ℕ
rest_impact lane =
    if length lane.shown == lane.total then 0
    else slice_index (map (λ (entry : Entry). entry.impact) lane.shown) (length lane.shown - 1)

-- the most that the entries that are not shown can add to the score of a document
abbrev pub rest : ShownLane → ℕ
rest lane = lane.coefficient * rest_impact lane

-- the most that a document can score that no shown entry names
abbrev pub threshold : List ShownLane → ℕ
threshold lanes = sum_by rest lanes

-- whether a shown entry of the lane names the document
abbrev pub names : ℕ → ShownLane → Bool
names doc lane = list_any (λ (entry : Entry). entry.doc == doc) lane.shown

-- a document is met if a shown entry of some lane names it
abbrev pub IsMet : List ShownLane → ℕ → Type 0
IsMet lanes doc = list_any (names doc) lanes ≡ true

-- the document's impact among the shown entries of the lane
abbrev pub shown_impact : ℕ → ShownLane → ℕ
shown_impact doc lane = sum_by (λ (entry : Entry). if entry.doc == doc then entry.impact else 0) lane.shown

-- the least that the document scores, by the shown entries
abbrev pub lo_of : List ShownLane → ℕ → ℕ
lo_of lanes doc = sum_by (λ lane. lane.coefficient * shown_impact doc lane) lanes

-- the most that the lanes that do not name the document can add
abbrev pub missing : List ShownLane → ℕ → ℕ
missing lanes doc = sum_by (λ lane. if names doc lane then 0 else rest lane) lanes

-- the sum of the rests of the lanes that name the document
abbrev pub held : List ShownLane → ℕ → ℕ
held lanes doc = sum_by (λ lane. if names doc lane then rest lane else 0) lanes

-- the bracket of a met document, from all shown entries
abbrev pub bracket : List ShownLane → ℕ → Bracket
bracket lanes doc = record { doc = doc; lo = lo_of lanes doc; hi = lo_of lanes doc + missing lanes doc }
