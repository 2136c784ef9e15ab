-- What shards show, where each shows rows and one number, its rest: the most that another of its documents can score.
use Rattle.std.specs.Prelude.{◌≡◌, ◌<◌, ◌≤◌, ℕ, List, length, map}
use Rattle.std.specs.List.{All}
use Rattle.ats_impact.specs.Rank.{times as times_in}
use Rattle.ats_impact.specs.declared.rank.Row.{Row}
use Rattle.ats_catalog_check.specs.Merge.{Shown, shown_at}

-- The rows that a shard shows are of distinct documents that score within the row's bounds, above 0. Each other document
-- scores at most the rest.
pub record IsBounded (size : ℕ) (score_of : ℕ → ℕ) (shown : Shown) : Type 0 where
  pub once : (doc : ℕ) → times_in doc (map (λ (row : Row). row.doc) shown.rows) ≤ 1
  pub scoring : All (λ (row : Row). (row.doc < size) × (0 < score_of row.doc)) shown.rows
  pub bounds : All (λ (row : Row). (row.lower ≤ score_of row.doc) × (score_of row.doc ≤ row.upper)) shown.rows
  pub others : (doc : ℕ) → doc < size → times_in doc (map (λ (row : Row). row.doc) shown.rows) ≡ 0 → score_of doc ≤ shown.rest

-- so of each shard, and there are no other documents
pub record AreBounded (size : ℕ → ℕ) (score_of : ℕ → ℕ → ℕ) (shards : List Shown) : Type 0 where
  pub each : (i : ℕ) → i < length shards → IsBounded (size i) (score_of i) (shown_at shards i)
  pub only : (i : ℕ) → length shards ≤ i → size i ≡ 0
