-- The schedule of a walk: the cuts of whole lists, one after another, and the first at which an answer is settled. A
-- profile of the threshold algorithms of Pang and Mouratidis, VLDB 2008.
use Rattle.std.specs.Prelude.{◌≡◌, ◌≢◌, ◌<◌, ◌≤◌, ◌+◌, ◌*◌, ◌==◌, ℕ, zero, suc, List, [], ◌∷◌, length, map, set, slice_index, slice_index_or, Bool}
use Rattle.std.specs.List.{All, list_any}
use Rattle.ats_postings.specs.declared.entry.Entry.{Entry}
use Rattle.ats_bound.specs.declared.bracket.Bracket.{Bracket}
use Rattle.ats_bound.specs.declared.lane.Lane.{Lane}
use Rattle.ats_bound.specs.Cut.{ShownLane, lane_of, rest, threshold, names, bracket}
use Rattle.ats_bound.specs.Settled.{ArePicks, IsSettled, bracket_at}

-- a term's coefficient and its whole list
pub record WholeLane : Type 0 where
  pub coefficient : ℕ
  pub entries : List Entry

-- the greatest coefficient of a term, and the most that one entry of its list adds to a score
abbrev pub most_coefficient : ℕ
most_coefficient = 34935

abbrev pub most_gain : ℕ
most_gain = most_coefficient * 65535

-- a list of 1 to 65,536 entries of distinct documents, with impacts of at least 1 that never rise
pub record IsWholeLane (lane : WholeLane) : Type 0 where
  pub weighted : (1 ≤ lane.coefficient) × (lane.coefficient ≤ most_coefficient)
  pub some : 1 ≤ length lane.entries
  pub few : length lane.entries ≤ 65536
  pub impacts : All (λ (entry : Entry). 1 ≤ entry.impact) lane.entries
  pub falling : (i j : ℕ) (d : Entry) → i < j → j < length lane.entries
      → (slice_index_or lane.entries j d).impact ≤ (slice_index_or lane.entries i d).impact
  pub once : (i j : ℕ) (d : Entry) → i < j → j < length lane.entries
      → (slice_index_or lane.entries i d).doc ≢ (slice_index_or lane.entries j d).doc

-- at most 32 lanes, one for each term of a query that has a list
pub record AreWholeLanes (lanes : List WholeLane) : Type 0 where
  pub few : length lanes ≤ 32
  pub each : All IsWholeLane lanes

-- the lane that is passed to a call
abbrev pub whole_lane : Lane → WholeLane
whole_lane lane = record { coefficient = lane.coefficient; entries = lane.entries.now }

abbrev pub whole_lanes : List Lane → List WholeLane
whole_lanes lanes = map whole_lane lanes

-- of each list at least one entry is shown, and at most all
pub record IsCut (lanes : List WholeLane) (cut : List ℕ) : Type 0 where
  pub size : length cut ≡ length lanes
  pub each : (i : ℕ) (d : WholeLane) → i < length lanes
      → (1 ≤ slice_index cut i) × (slice_index cut i ≤ length (slice_index_or lanes i d).entries)

-- what a cut shows: of each list the first entries, as many as the cut says
abbrev pub shown : List WholeLane → List ℕ → List ShownLane
shown [] cut = []
shown (lane ∷ lanes) [] = []
shown (lane ∷ lanes) (count ∷ cut) = lane_of lane.coefficient lane.entries count ∷ shown lanes cut

-- list i at a cut
abbrev pub shown_at : List WholeLane → List ℕ → ℕ → ShownLane
shown_at lanes cut i = slice_index_or (shown lanes cut) i (record { coefficient = 0; total = 0; shown = [] })

-- list i has an entry that is not shown
abbrev pub IsOpen : List WholeLane → List ℕ → ℕ → Type 0
IsOpen lanes cut i = length (shown_at lanes cut i).shown < (shown_at lanes cut i).total

-- each list shows all its entries
abbrev pub AreAllShown : List ShownLane → Type 0
AreAllShown lanes = All (λ (lane : ShownLane). length lane.shown ≡ lane.total) lanes

-- of the lists that are not whole, the one with the largest rest; of several such lists the first
pub record IsNextLane (lanes : List WholeLane) (cut : List ℕ) (i : ℕ) : Type 0 where
  pub inside : i < length lanes
  pub more : IsOpen lanes cut i
  pub greatest : (j : ℕ) → j < length lanes → IsOpen lanes cut j
      → rest (shown_at lanes cut j) ≤ rest (shown_at lanes cut i)
  pub least : (j : ℕ) → j < i → IsOpen lanes cut j → rest (shown_at lanes cut j) < rest (shown_at lanes cut i)

-- one turn: the next list shows one more entry
pub record IsTurn (lanes : List WholeLane) (cut : List ℕ) (after : List ℕ) : Type 0 where
  pub place : ℕ
  pub next : IsNextLane lanes cut place
  pub counts : after ≡ set cut place (slice_index cut place + 1)

-- the first cut shows one entry of each list
abbrev pub first_cut : List WholeLane → List ℕ
first_cut lanes = map (λ (lane : WholeLane). 1) lanes

-- the cut after n turns
abbrev pub IsScheduled : List WholeLane → ℕ → List ℕ → Type 0
IsScheduled lanes zero cut = cut ≡ first_cut lanes
IsScheduled lanes (suc n) cut = (before : List ℕ) × IsScheduled lanes n before × IsTurn lanes before cut

-- whether one of the brackets is the document's
abbrev pub has_bracket : ℕ → List Bracket → Bool
has_bracket doc brackets = list_any (λ (b : Bracket). b.doc == doc) brackets

-- how the bracket of a document is formed from what a cut shows
abbrev pub Bounding : Type 0
Bounding = List ShownLane → ℕ → Bracket

-- the brackets of the met documents, formed this way, by document ascending
pub record AreBracketsBy (bounds : Bounding) (lanes : List ShownLane) (brackets : List Bracket) : Type 0 where
  pub rise : (i j : ℕ) → i < j → j < length brackets → (bracket_at brackets i).doc < (bracket_at brackets j).doc
  pub met : (doc : ℕ) → has_bracket doc brackets ≡ list_any (names doc) lanes
  pub each : All (λ (b : Bracket). b ≡ bounds lanes b.doc) brackets

-- some answer of at most r rows is settled at the cut
pub record CanSettleBy (bounds : Bounding) (lanes : List WholeLane) (r : ℕ) (cut : List ℕ) : Type 0 where
  pub brackets : List Bracket
  pub bounded : AreBracketsBy bounds (shown lanes cut) brackets
  pub answer : List ℕ
  pub inside : ArePicks brackets answer
  pub settled : IsSettled brackets answer (threshold (shown lanes cut)) r

-- the first cut of the schedule at which this holds
pub record IsFirstCut (Stops : List ℕ → Type 0) (lanes : List WholeLane) (cut : List ℕ) : Type 0 where
  pub turns : ℕ
  pub scheduled : IsScheduled lanes turns cut
  pub stops : Stops cut
  pub first : (n : ℕ) (earlier : List ℕ) → n < turns → IsScheduled lanes n earlier → Stops earlier → ⊥

-- the first cut of the schedule at which some answer is settled
abbrev pub IsFirstSettledBy : Bounding → List WholeLane → ℕ → List ℕ → Type 0
IsFirstSettledBy bounds lanes r cut = IsFirstCut (CanSettleBy bounds lanes r) lanes cut

-- ---- from the shown entries only, with no random access

abbrev pub AreBracketsOf : List ShownLane → List Bracket → Type 0
AreBracketsOf lanes brackets = AreBracketsBy bracket lanes brackets

abbrev pub IsFirstSettled : List WholeLane → ℕ → List ℕ → Type 0
IsFirstSettled lanes r cut = IsFirstSettledBy bracket lanes r cut
