-- What always holds for the counts that the terms of a document keep.
use Rattle.std.specs.Prelude.{◌≤◌, ◌^◌, ℕ, List, length}
use Rattle.std.specs.List.{All}

-- counts, none above the number of the document's terms, which is at most that of all documents
pub record AreCounts (total len documents : ℕ) (counts : List (List ℕ × ℕ)) : Type 0 where
  pub few : length counts ≤ 2 ^ 20
  pub within : All (λ pair. pair.1 ≤ len) counts
  pub among : len ≤ total
  pub terms : total ≤ 2 ^ 24
  pub one : 1 ≤ documents
  pub small : documents ≤ 65536
