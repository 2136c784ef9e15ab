-- Indexes that name met documents, each at most once.
use Rattle.std.specs.Prelude.{◌≡◌, ◌<◌, ◌≤◌, ◌∷◌, ◌++◌, ℕ, List, length}
use Rattle.std.specs.List.{All}
use Rattle.ats_impact.specs.Rank.{times}
use Rattle.ats_bound.specs.Settled.{AreDistinct}

-- each index is below the number of met documents, and none occurs twice
pub record AreNames (met : ℕ) (indexes : List ℕ) : Type 0 where
  pub inside : All (λ index. index < met) indexes
  pub once : AreDistinct indexes

-- the index at this place is the first that breaks the rule, and is not below that number
pub record IsOut (met : ℕ) (indexes : List ℕ) (place : ℕ) : Type 0 where
  pub before : List ℕ
  pub index : ℕ
  pub after : List ℕ
  pub stands : indexes ≡ before ++ index ∷ after
  pub place_of : length before ≡ place
  pub names : AreNames met before
  pub out : met ≤ index

-- the index at this place is the first that breaks the rule, and occurs before it too
pub record IsAgain (met : ℕ) (indexes : List ℕ) (place : ℕ) : Type 0 where
  pub before : List ℕ
  pub index : ℕ
  pub after : List ℕ
  pub stands : indexes ≡ before ++ index ∷ after
  pub place_of : length before ≡ place
  pub names : AreNames met before
  pub inside : index < met
  pub again : 1 ≤ times index before
