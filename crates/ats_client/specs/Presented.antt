-- The present terms of a query, as a proof shows them.
use Rattle.std.specs.Prelude.{◌+◌, ◌*◌, ℕ, List, [], ◌∷◌, map, drop, slice_index_or, if◌then◌else◌}
use Rattle.ats_impact.specs.Numbers.{idf}
use Rattle.ats_dict.specs.Entry.{DictEntry}
use Rattle.ats_dict.specs.Dictionary.{low}
use Rattle.ats_proof.specs.declared.record.Slot.{Slot}
use Rattle.ats_bound.specs.Cut.{ShownLane}
use Rattle.ats_proof.specs.Value.{ShownEntry, Prefix, Proof}
use Rattle.ats_proof.specs.Runs.{named}

-- a term whose slot says that it is present: its number in the query, its weight, its entry in the dictionary, and the
-- shown front of its list
pub record Presented : Type 0 where
  pub number : ℕ
  pub weight : ℕ
  pub entry : DictEntry
  pub prefix : Prefix

-- the entry at a place of the dictionary section
abbrev pub entry_at : List ShownEntry → ℕ → DictEntry
entry_at dict place = slice_index_or (map (λ (shown : ShownEntry). shown.entry) dict) place low

abbrev pub first_prefix : List Prefix → Prefix
first_prefix lists = slice_index_or lists 0 (record { entries = []; digests = [] })

-- the present ones among the terms from this number on; each takes the first prefix that is left
abbrev pub presented_from : List ShownEntry → ℕ → List (List ℕ × ℕ) → List Slot → List Prefix → List Presented
presented_from dict number [] slots lists = []
presented_from dict number (pair ∷ query) [] lists = []
presented_from dict number (pair ∷ query) (slot ∷ slots) lists =
    if slot.present
    then record { number = number; weight = pair.1; entry = entry_at dict slot.index; prefix = first_prefix lists }
    ∷ presented_from dict (number + 1) query slots (drop 1 lists)
    else presented_from dict (number + 1) query slots lists

-- the present terms of a proof, in the query's order
abbrev pub presented : List (List ℕ × ℕ) → Proof → List Presented
presented query proof = presented_from proof.dict 0 query proof.slots proof.lists

-- the lane of a present term: its weight times its idf among this many documents, the length of its list, and the shown
-- entries with the documents that they name
abbrev pub lane_of : ℕ → List ℕ → Presented → ShownLane
lane_of documents met term = record {
  coefficient = term.weight * idf documents term.entry.f;
  total = term.entry.f;
  shown = map (named met) term.prefix.entries;
}

-- what a proof shows of the lists of the query's terms
abbrev pub lanes_of : List (List ℕ × ℕ) → Proof → List ShownLane
lanes_of query proof = map (lane_of proof.header.documents proof.met) (presented query proof)
