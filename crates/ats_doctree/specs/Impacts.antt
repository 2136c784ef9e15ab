-- The distinct terms of a document in byte order, each with its impact.
use Rattle.std.specs.Prelude.{◌≤◌, ◌^◌, ℕ, List, [], length, map, slice_index_or}
use Rattle.std.specs.List.{All}
use Rattle.ats_terms.specs.Terms.{terms, IsTerm}
use Rattle.ats_terms.specs.Query.{counted, Rises}
use Rattle.ats_impact.specs.Numbers.{impact}
use Rattle.ats_impact.specs.Score.{total_terms}

-- each term with its impact, from its count, the terms of all documents, those of its own, and the number of documents
abbrev pub with_impacts : ℕ → ℕ → ℕ → List (List ℕ × ℕ) → List (List ℕ × ℕ)
with_impacts total len documents counts = map (λ pair. (pair.0, impact pair.1 total len documents)) counts

-- the terms of a text of a collection, with their impacts
abbrev pub text_terms : List (List ℕ) → List ℕ → List (List ℕ × ℕ)
text_terms texts text = with_impacts (total_terms texts) (length (terms text)) (length texts) (counted (terms text))

-- the terms of a document of a collection, with their impacts
abbrev pub doc_terms : List (List ℕ) → ℕ → List (List ℕ × ℕ)
doc_terms texts doc = text_terms texts (slice_index_or texts doc [])

-- an impact is 1 to 2,200
pub record IsImpact (impact : ℕ) : Type 0 where
  pub some : 1 ≤ impact
  pub few : impact ≤ 2200

-- at most 2 ^ 20 terms that rise strictly in byte order, each with an impact
pub record AreImpacts (items : List (List ℕ × ℕ)) : Type 0 where
  pub few : length items ≤ 2 ^ 20
  pub rises : Rises items
  pub terms : All (λ item. IsTerm item.0) items
  pub impacts : All (λ item. IsImpact item.1) items
