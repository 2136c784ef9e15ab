-- Notes: what the entries of prefixes add to the marks of the documents that they name, by met index.
use Rattle.std.specs.Prelude.{◌≡◌, ◌<◌, ◌≤◌, ◌*◌, ◌+◌, ◌^◌, ◌==◌, ℕ, Bool, false, List, length, map, nat_lt, if◌then◌else◌}
use Rattle.std.specs.List.{list_any, sum_by, flat_map}
use Rattle.ats_impact.specs.Numbers.{idf}
use Rattle.ats_postings.specs.declared.entry.Entry.{Entry}
use Rattle.ats_bound.specs.declared.work.Mark.{Mark}
use Rattle.ats_bound.specs.Work.{mark_at}
use Rattle.ats_bound.specs.Cut.{ShownLane, rest}
use Rattle.ats_client.specs.Presented.{Presented}

-- the lane of a present term, with met indexes for documents
abbrev pub index_lane : ℕ → Presented → ShownLane
index_lane documents term = record {
  coefficient = term.weight * idf documents term.entry.f;
  total = term.entry.f;
  shown = term.prefix.entries;
}

-- what an entry adds to the least that its document scores, and to the rests of the lanes that name it
pub record Note : Type 0 where
  pub index : ℕ
  pub gain : ℕ
  pub rest : ℕ

abbrev pub note : ℕ → ℕ → Entry → Note
note coefficient most entry = record { index = entry.doc; gain = coefficient * entry.impact; rest = most }

-- the notes of a lane's entries, and of those of some present terms
abbrev pub lane_notes : ShownLane → List Note
lane_notes lane = map (note lane.coefficient (rest lane)) lane.shown

abbrev pub notes_of : ℕ → List Presented → List Note
notes_of documents terms = flat_map (λ term. lane_notes (index_lane documents term)) terms

abbrev pub gain_of : ℕ → List Note → ℕ
gain_of index notes = sum_by (λ (n : Note). if n.index == index then n.gain else 0) notes

abbrev pub held_of : ℕ → List Note → ℕ
held_of index notes = sum_by (λ (n : Note). if n.index == index then n.rest else 0) notes

abbrev pub has_note : ℕ → List Note → Bool
has_note index notes = list_any (λ (n : Note). n.index == index) notes

-- a mark after one more note, of a list that is counted from 1
abbrev pub with_note : Mark → ℕ → ℕ → ℕ → Mark
with_note mark list gain most = record { lo = mark.lo + gain; held = mark.held + most; list = list; row = mark.row }

-- the mark of a met index after some notes; the current list, counted from 1, has named these indexes so far
pub record IsNoted (notes : List Note) (list : ℕ) (named : List ℕ) (index : ℕ) (mark : Mark) : Type 0 where
  pub least : mark.lo ≡ gain_of index notes
  pub held : mark.held ≡ held_of index notes
  pub met : nat_lt 0 mark.list ≡ has_note index notes
  pub here : (mark.list == list) ≡ list_any (λ i. i == index) named
  pub early : mark.list ≤ list
  pub small_lower : mark.lo ≤ 2 ^ 33 * mark.list
  pub small_held : mark.held ≤ 2 ^ 33 * mark.list
  pub free : mark.row ≡ false

-- one mark for each met index
pub record AreNotes (met : ℕ) (notes : List Note) (list : ℕ) (named : List ℕ) (marks : List Mark) : Type 0 where
  pub size : length marks ≡ met
  pub each : (i : ℕ) → i < met → IsNoted notes list named i (mark_at marks i)
