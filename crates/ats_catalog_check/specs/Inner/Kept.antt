-- What is kept of the shards that were checked.
use Rattle.std.specs.Prelude.{◌≡◌, ◌↔◌, ◌<◌, ◌≤◌, ℕ, Bool, List, IsTrue, true}
use Rattle.std.specs.List.{All}
use Rattle.ats_impact.specs.declared.rank.Row.{Row}
use Rattle.ats_catalog_check.specs.declared.row.CatalogRow.{CatalogRow}
use Rattle.ats_catalog_check.specs.Merge.{Shown, AreFalling}

-- all rows are of shards before this one
abbrev pub AreBefore : ℕ → List CatalogRow → Type 0
AreBefore shard rows = All (λ (row : CatalogRow). row.shard < shard) rows

-- the test says whether the rows fall, and if they do, they are kept
pub record IsKeptIf (r : ℕ) (fall : Bool) (kept all : List CatalogRow) : Type 0 where
  pub falls : IsTrue fall ↔ AreFalling r all
  pub rows : fall ≡ true → kept ≡ all

-- the bounds of each row that a shard shows are ordered
abbrev pub HasOrdered : Shown → Type 0
HasOrdered one = All (λ (row : Row). row.lower ≤ row.upper) one.rows
