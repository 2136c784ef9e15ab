-- The lists of a query's terms, with their coefficients, and how each algorithm bounds scores by them.
use Rattle.std.specs.Prelude.{ℕ, List, [], map, filter, nat_lt, slice_index_or}
use Rattle.ats_impact.specs.Score.{coefficient, frequency}
use Rattle.ats_postings.specs.Lists.{list}
use Rattle.ats_bound.specs.Cut.{bracket}
use Rattle.ats_bound.specs.Lookup.{Table, looked_up}
use Rattle.ats_bound.specs.Ranked.{impact_in}
use Rattle.ats_bound.specs.Schedule.{Bounding, WholeLane}
use Rattle.ats_proof.specs.declared.record.Algorithm.{Algorithm}
use Rattle.ats_proof.specs.declared.record.Algorithm.TheVariants.{Tra, Tnra}

-- the terms that some text has
abbrev pub present : List (List ℕ) → List (List ℕ × ℕ) → List (List ℕ × ℕ)
present texts query = filter (λ pair. nat_lt 0 (frequency pair.0 texts)) query

-- the weight of a term times its idf, and its list
abbrev pub lane_of : List (List ℕ) → List ℕ × ℕ → WholeLane
lane_of texts pair = record { coefficient = coefficient texts pair; entries = list texts pair.0 }

-- one lane for each term that has a list, in the query's order
abbrev pub lanes_of : List (List ℕ) → List (List ℕ × ℕ) → List WholeLane
lanes_of texts query = map (lane_of texts) (present texts query)

-- a document's impact in the list of lane i, counted from 0
abbrev pub impacts_of : List WholeLane → Table
impacts_of lanes i doc = impact_in doc (slice_index_or lanes i (record { coefficient = 0; entries = [] })).entries

-- how brackets are formed: TNRA uses only the shown entries, TRA the impacts of whole lists
abbrev pub bounding : Algorithm → List WholeLane → Bounding
bounding Tnra lanes = bracket
bounding Tra lanes = looked_up (impacts_of lanes)
