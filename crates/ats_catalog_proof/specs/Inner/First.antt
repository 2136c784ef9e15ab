-- The first rows of two rankings.
use Rattle.std.specs.Prelude.{◌≡◌, ℕ, List, map, take}
use Rattle.std.specs.List.Sorted.{IsPermutation, IsSorted}
use Rattle.ats_impact.specs.declared.rank.Row.{Row}
use Rattle.ats_catalog_honest.specs.Ranking.{Ranked, ranked_cmp}

-- a row of a shard's own ranking
abbrev pub ranked_in : ℕ → Row → Ranked
ranked_in shard row = record { shard = shard; doc = row.doc; score = row.lower }

abbrev pub in_shard : ℕ → List Row → List Ranked
in_shard shard rows = map (ranked_in shard) rows

-- the first r of these, in the order of rankings
pub record AreFirst (r : ℕ) (given rows : List Ranked) : Type 0 where
  pub all : List Ranked
  pub same : IsPermutation given all
  pub ordered : IsSorted ranked_cmp all
  pub first : rows ≡ take r all
