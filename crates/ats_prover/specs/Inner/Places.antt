-- The places of terms in a query.
use Rattle.std.specs.Prelude.{◌<◌, ◌≤◌, ℕ, List, [], length, map, slice_index_or}
use Rattle.std.specs.List.{All}
use Rattle.ats_terms.specs.Query.{Rises}

-- the terms at these places of a query
abbrev pub terms_at : List (List ℕ × ℕ) → List ℕ → List (List ℕ × ℕ)
terms_at query places = map (λ i. slice_index_or query i ([], 0)) places

-- few places, each of a term of the query, whose terms rise
pub record ArePlaces (query : List (List ℕ × ℕ)) (places : List ℕ) : Type 0 where
  pub few : length places ≤ 32
  pub inside : All (λ i. i < length query) places
  pub rise : Rises (terms_at query places)
