-- Which documents have every term of a query, and which documents a proof shows.
use Rattle.std.specs.Prelude.{ℕ, Bool, List, [], length, map, nat_lt, slice_index_or, if◌then◌else◌}
use Rattle.std.specs.List.{filter, list_all, range_with_len}
use Rattle.ats_impact.specs.Score.{count}
use Rattle.ats_proof.specs.declared.record.Slot.{Slot}
use Rattle.ats_proof.specs.Value.{Proof}
use Rattle.ats_client.specs.Documents.{MetDocument, met_documents}

-- whether the document has every term of the query
abbrev pub has_all : List (List ℕ) → List (List ℕ × ℕ) → ℕ → Bool
has_all texts query doc = list_all (λ (pair : List ℕ × ℕ). nat_lt 0 (count pair.0 (slice_index_or texts doc []))) query

-- all documents that have every term of the query, ascending
abbrev pub both : List (List ℕ) → List (List ℕ × ℕ) → List ℕ
both texts query = filter (has_all texts query) (range_with_len 0 (length texts))

-- whether each slot says that its term is present
abbrev pub are_present : List Slot → Bool
are_present slots = list_all (λ (slot : Slot). slot.present) slots

-- whether the slots of a met document say that it has every present term
abbrev pub shows_all : MetDocument → Bool
shows_all one = are_present one.section.slots

-- the met documents whose slots say so, in their order
abbrev pub with_all : List MetDocument → List ℕ
with_all ones = map (λ (one : MetDocument). one.doc) (filter shows_all ones)

-- the documents that a proof shows: none if a term of the query is absent, else the met ones that have every term
abbrev pub documents_shown : Proof → List ℕ
documents_shown proof = if are_present proof.slots then with_all (met_documents proof) else []
