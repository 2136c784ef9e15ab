-- The rows that shards show, merged into one answer, and when that answer is settled.
use Rattle.std.specs.Prelude.{◌<◌, ◌≤◌, ◌+◌, ◌-◌, ◌&&◌, ◌||◌, ℕ, Bool, List, [], ◌∷◌, length, map, nat_eq, nat_lt, max, if◌then◌else◌, slice_index_or}
use Rattle.ats_impact.specs.declared.rank.Row.{Row}
use Rattle.ats_catalog_check.specs.declared.row.CatalogRow.{CatalogRow}

-- a list of rows, and how many it may have
pub record Held : Type 0 where
  pub rows : List CatalogRow
  pub room : ℕ

-- the rows that a shard shows, and its rest: the most that another of its documents can score
pub record Shown : Type 0 where
  pub rows : List Row
  pub rest : ℕ

-- the shard with this number; past the last it shows nothing
abbrev pub shown_at : List Shown → ℕ → Shown
shown_at shards i = slice_index_or shards i (record { rows = []; rest = 0 })

-- a row of the shard with this number
abbrev pub in_shard : ℕ → Row → CatalogRow
in_shard shard row = record { shard = shard; doc = row.doc; lower = row.lower; upper = row.upper }

-- whether a row comes before one of a lesser shard: its document scores more at least, or as much and more at most
abbrev pub precedes : CatalogRow → CatalogRow → Bool
precedes later row = nat_lt row.lower later.lower || (nat_eq later.lower row.lower && nat_lt row.upper later.upper)

-- a row, and what follows it, merged with the rows of a later shard
abbrev pub merge_before : CatalogRow → (List CatalogRow → List CatalogRow) → List CatalogRow → List CatalogRow
merge_before row follow [] = row ∷ follow []
merge_before row follow (x ∷ later) = if precedes x row then x ∷ merge_before row follow later else row ∷ follow (x ∷ later)

-- rows merged with those of a later shard: of the next two rows the one that comes first, until none is left
abbrev pub merge : List CatalogRow → List CatalogRow → List CatalogRow
merge [] later = later
merge (row ∷ rows) later = merge_before row (merge rows) later

-- rows merged with those of the shards from this number on
abbrev pub merged_from : ℕ → List CatalogRow → List Shown → List CatalogRow
merged_from shard rows [] = rows
merged_from shard rows (one ∷ more) = merged_from (shard + 1) (merge rows (map (in_shard shard) one.rows)) more

-- the rows of all shards, merged
abbrev pub merged : List Shown → List CatalogRow
merged shards = merged_from 0 [] shards

-- a row of an answer
abbrev pub row_at : List CatalogRow → ℕ → CatalogRow
row_at rows k = slice_index_or rows k (record { shard = 0; doc = 0; lower = 0; upper = 0 })

abbrev pub last_of : List CatalogRow → CatalogRow
last_of rows = row_at rows (length rows - 1)

-- the greatest rest of the shards
abbrev pub greatest_rest : List Shown → ℕ
greatest_rest [] = 0
greatest_rest (one ∷ more) = max one.rest (greatest_rest more)

-- what a document that is no row may score: as much as the last of r rows; nothing, if there are fewer rows
abbrev pub floor : ℕ → List CatalogRow → ℕ
floor r rows = if nat_eq (length rows) r then (last_of rows).lower else 0

-- at most r rows, none of which can score more than the least that the row before it scores
pub record AreFalling (r : ℕ) (rows : List CatalogRow) : Type 0 where
  pub most : length rows ≤ r
  pub fall : (k : ℕ) → k + 1 < length rows → (row_at rows (k + 1)).upper ≤ (row_at rows k).lower

-- the merged rows fall, and nothing else can score more than the floor
pub record IsSettled (r : ℕ) (shards : List Shown) : Type 0 where
  pub falling : AreFalling r (merged shards)
  pub rests : greatest_rest shards ≤ floor r (merged shards)
