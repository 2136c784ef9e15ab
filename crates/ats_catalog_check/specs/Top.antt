-- What it means that rows are a top answer of several shards.
use Rattle.std.specs.Prelude.{◌≡◌, ◌⊎◌, ◌<◌, ◌≤◌, ◌+◌, ◌==◌, ◌&&◌, ℕ, List, length, count_by}
use Rattle.std.specs.List.{All}
use Rattle.ats_catalog_check.specs.declared.row.CatalogRow.{CatalogRow}
use Rattle.ats_catalog_check.specs.Merge.{row_at, last_of}

-- how often a document of a shard is in an answer
abbrev pub times : ℕ → ℕ → List CatalogRow → ℕ
times shard doc rows = count_by (λ (row : CatalogRow). (row.shard == shard) && (row.doc == doc)) rows

-- the score of a row's document
abbrev pub score_of_row : (ℕ → ℕ → ℕ) → CatalogRow → ℕ
score_of_row score_of row = score_of row.shard row.doc

-- The rows are r of all documents with the highest scores above 0, or all such. A shard has documents 0 to its size - 1.
pub record IsTopBy (size : ℕ → ℕ) (score_of : ℕ → ℕ → ℕ) (r : ℕ) (rows : List CatalogRow) : Type 0 where
  -- their documents are distinct, at most r, and score above 0
  pub once : (shard doc : ℕ) → times shard doc rows ≤ 1
  pub most : length rows ≤ r
  pub scoring : All (λ (row : CatalogRow). (row.doc < size row.shard) × (0 < score_of_row score_of row)) rows
  -- no row scores more than the row before it
  pub falling : (k : ℕ) → k + 1 < length rows
      → score_of_row score_of (row_at rows (k + 1)) ≤ score_of_row score_of (row_at rows k)
  -- there are r rows, or each document outside them scores 0
  pub whole : (length rows ≡ r) ⊎ ((shard doc : ℕ) → doc < size shard → times shard doc rows ≡ 0 → score_of shard doc ≡ 0)
  -- no document outside them scores more than the last row
  pub rest : (shard doc : ℕ) → doc < size shard → times shard doc rows ≡ 0 → 0 < length rows
      → score_of shard doc ≤ score_of_row score_of (last_of rows)

-- the score of the row's document is between the row's bounds
pub record HoldsRow (score_of : ℕ → ℕ → ℕ) (row : CatalogRow) : Type 0 where
  pub least : row.lower ≤ score_of_row score_of row
  pub most : score_of_row score_of row ≤ row.upper

-- the rows are a top answer of at most r, and each row's bounds enclose the score of its document
pub record AreRightBy (size : ℕ → ℕ) (score_of : ℕ → ℕ → ℕ) (r : ℕ) (rows : List CatalogRow) : Type 0 where
  pub top : IsTopBy size score_of r rows
  pub bounds : All (HoldsRow score_of) rows
