-- The present terms of a query as they are kept while the met documents are checked.
use Rattle.std.specs.Prelude.{◌*◌, ℕ, List, [], map}
use Rattle.ats_impact.specs.Numbers.{idf}
use Rattle.ats_bound.specs.Cut.{ShownLane}
use Rattle.ats_proof.specs.Value.{Proof}
use Rattle.ats_client.specs.declared.kept_terms.PresentTerm.{PresentTerm}
use Rattle.ats_client.specs.Presented.{Presented, presented}

-- the number of a term, and its weight times its idf among this many documents
abbrev pub kept_term : ℕ → Presented → PresentTerm
kept_term documents one = record { number = one.number; coefficient = one.weight * idf documents one.entry.f }

-- the kept terms of a proof
abbrev pub kept_terms : List (List ℕ × ℕ) → Proof → List PresentTerm
kept_terms query proof = map (kept_term proof.header.documents) (presented query proof)

abbrev pub numbers_of : List PresentTerm → List ℕ
numbers_of terms = map (λ (term : PresentTerm). term.number) terms

-- the lanes of kept terms, with no entry shown
abbrev pub bare_lanes : List PresentTerm → List ShownLane
bare_lanes terms = map (λ (term : PresentTerm). let lane : ShownLane = record { coefficient = term.coefficient; total = 0; shown = [] } in lane) terms
