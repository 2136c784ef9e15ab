-- How the bracket of a document is formed from what a proof shows, by the proof's algorithm.
use Rattle.std.specs.Prelude.{◌==◌, ℕ, List, [], ◌∷◌, map, slice_index, if◌then◌else◌, Option, Some, None}
use Rattle.ats_bound.specs.Cut.{bracket}
use Rattle.ats_bound.specs.Lookup.{Table, looked_up}
use Rattle.ats_bound.specs.Schedule.{Bounding}
use Rattle.ats_proof.specs.Value.{ShownTerm, TermsSection, Documents, Proof}
use Rattle.ats_client.specs.Groups.{slot_at}

-- the impact that a document's section shows of present term i, counted among the present terms only: 0 if its slot
-- says that the document has no such term
abbrev pub impact_shown : TermsSection → ℕ → ℕ
impact_shown section i =
    if (slot_at section.slots i).present
    then slice_index (map (λ (leaf : ShownTerm). leaf.term.1) section.leaves) (slot_at section.slots i).index
    else 0

-- the impacts that are shown of the met documents, by present term and document
abbrev pub impacts_shown : List ℕ → List TermsSection → Table
impacts_shown [] sections i doc = 0
impacts_shown (id ∷ met) [] i doc = 0
impacts_shown (id ∷ met) (section ∷ sections) i doc = if id == doc then impact_shown section i else impacts_shown met sections i doc

-- from the shown entries if only lists are shown, and from looked up impacts if documents are
abbrev pub bounds_in : List ℕ → Option Documents → Bounding
bounds_in met None = bracket
bounds_in met (Some docs) = looked_up (impacts_shown met docs.sections)

abbrev pub bounds_of : Proof → Bounding
bounds_of proof = bounds_in proof.met proof.docs
