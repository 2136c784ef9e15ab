-- What a ranking keeps.
use Rattle.std.specs.Prelude.{ℕ, List}
use Rattle.ats_catalog_honest.specs.Ranking.{Ranked}

-- the query and the number of rows; the roots of the shards that were taken, and the first rows of them all, one more
-- than an answer has
pub record RankingState : Type 0 where
  pub query : List (List ℕ × ℕ)
  pub r : ℕ
  pub roots : List (List ℕ)
  pub rows : List Ranked
