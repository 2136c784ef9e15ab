-- What an audit keeps.
use Rattle.std.specs.Prelude.{ℕ, List, Option, Result}
use Rattle.ats_tree.specs.Differences.{Difference}
use Rattle.ats_refusal.specs.declared.catalog.CatalogRefusal.{CatalogRefusal}
use Rattle.ats_catalog_bytes.specs.Value.{Framed}
use Rattle.ats_catalog_check.specs.Merge.{Held}
use Rattle.ats_catalog_check.specs.Strings.{CatalogPlace}

-- the query; what the proof shows of the shards, the root over the roots that it shows, and what the check under this root
-- finds; the shards whose indexes were not taken; the roots of those that were, and the first collision of their proofs
pub record AuditState : Type 0 where
  pub query : List (List ℕ × ℕ)
  pub shown : List Framed
  pub root : List ℕ
  pub checked : Result Held CatalogRefusal
  pub left : List Framed
  pub roots : List (List ℕ)
  pub first : Option (Difference CatalogPlace)
