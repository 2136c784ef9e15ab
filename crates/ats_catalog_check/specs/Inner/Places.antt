-- The place of a row among rows of its shard and of lesser ones.
use Rattle.std.specs.Prelude.{◌≡◌, ◌≢◌, ◌⊎◌, ◌<◌, ◌≤◌, ◌++◌, ◌∷◌, ◌+◌, ℕ, List, length, take, drop, true, false}
use Rattle.std.specs.List.{All}
use Rattle.ats_catalog_check.specs.Merge.{precedes, row_at}
use Rattle.ats_catalog_check.specs.declared.row.CatalogRow.{CatalogRow}

-- the row comes before all rows from this place on, which are of lesser shards, but not before the row before the place, or
-- that one is of its own shard
pub record IsPlace (row : CatalogRow) (rows : List CatalogRow) (place : ℕ) : Type 0 where
  pub inside : place ≤ length rows
  pub later : (k : ℕ) → place ≤ k → k < length rows → (precedes row (row_at rows k) ≡ true) × ((row_at rows k).shard ≢ row.shard)
  pub earlier : (k : ℕ) → place ≡ k + 1 → ((row_at rows k).shard ≡ row.shard) ⊎ (precedes row (row_at rows k) ≡ false)

-- rows with one more at a place
abbrev pub put_in : CatalogRow → List CatalogRow → ℕ → List CatalogRow
put_in row rows place = take place rows ++ row ∷ drop place rows

-- the bounds of each row are ordered
abbrev pub AreOrdered : List CatalogRow → Type 0
AreOrdered rows = All (λ (row : CatalogRow). row.lower ≤ row.upper) rows

-- a row at a place scores no more than the least of the row before it, and no less than the most of the row after it
pub record IsBetween (row : CatalogRow) (rows : List CatalogRow) (place : ℕ) : Type 0 where
  pub above : (k : ℕ) → place ≡ k + 1 → row.upper ≤ (row_at rows k).lower
  pub below : place < length rows → (row_at rows place).upper ≤ row.lower
