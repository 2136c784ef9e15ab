-- How the rows of one answer are shared out among shards: each row has its span, and a shard is asked for the rows that are
-- its own.
use Rattle.std.specs.Prelude.{◌≡◌, ◌⊎◌, ◌<◌, ◌≤◌, ◌+◌, ◌==◌, ℕ, List, [], ◌∷◌, length, map, slice_index_or, if◌then◌else◌}
use Rattle.std.specs.List.{All}
use Rattle.ats_bound.specs.declared.share.Share.{Share}
use Rattle.ats_bound.specs.declared.span.Span.{Span}
use Rattle.ats_bound.specs.Floors.{Floors, span_at}
use Rattle.ats_impact.specs.declared.rank.Row.{Row}
use Rattle.ats_catalog_check.specs.Merge.{Shown, shown_at}

-- for each row of the answer the number of its shard; and the edges of the rows' spans: row j, counted from 0, is between
-- edge j + 1 and edge j
pub record Shares : Type 0 where
  pub owners : List ℕ
  pub edges : ℕ → ℕ

-- below the first row edges never rise
abbrev pub AreEdges : Shares → Type 0
AreEdges shares = (i j : ℕ) → 1 ≤ i → i ≤ j → j ≤ length shares.owners → shares.edges j ≤ shares.edges i

-- the rows of a shard, if these owners begin at row j
abbrev pub rows_from : ℕ → ℕ → List ℕ → List ℕ
rows_from shard j [] = []
rows_from shard j (owner ∷ more) = if owner == shard then j ∷ rows_from shard (j + 1) more else rows_from shard (j + 1) more

-- the span of row j
abbrev pub span_of : (ℕ → ℕ) → ℕ → Span
span_of edges j = record { lower = edges (j + 1); upper = edges j }

-- what a shard is asked for: the spans of its rows, and that nothing else is above the last edge
abbrev pub floors_of : Shares → ℕ → Floors
floors_of shares shard = record {
  spans = map (span_of shares.edges) (rows_from shard 0 shares.owners);
  floor = shares.edges (length shares.owners);
}

-- the same without the edges between rows: how many rows, and the last edge
abbrev pub share_of : Shares → ℕ → Share
share_of shares shard = record { rows = length (rows_from shard 0 shares.owners); floor = shares.edges (length shares.owners) }

-- a row with its bounds in order, within its span
pub record IsRowIn (span : Span) (row : Row) : Type 0 where
  pub proper : row.lower ≤ row.upper
  pub least : span.lower ≤ row.lower
  pub most : row.upper ≤ span.upper

-- a shard shows what it is asked for
pub record ShowsWithin (floors : Floors) (one : Shown) : Type 0 where
  pub many : length one.rows ≡ length floors.spans
  pub rows : (k : ℕ) (d : Row) → k < length one.rows → IsRowIn (span_at floors.spans k) (slice_index_or one.rows k d)
  pub rest : one.rest ≤ floors.floor

-- so do all shards, and each row is some shard's; an answer of fewer than r rows leaves nothing over
pub record AreShared (shares : Shares) (r : ℕ) (shards : List Shown) : Type 0 where
  pub edges : AreEdges shares
  pub owned : All (λ owner. owner < length shards) shares.owners
  pub most : length shares.owners ≤ r
  pub whole : ((1 ≤ r) × (length shares.owners ≡ r)) ⊎ (shares.edges (length shares.owners) ≡ 0)
  pub each : (i : ℕ) → i < length shards → ShowsWithin (floors_of shares i) (shown_at shards i)
