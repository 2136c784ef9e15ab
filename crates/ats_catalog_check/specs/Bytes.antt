-- When bytes are accepted under a root as the proof of a catalog's answer, and why they are not otherwise.
use Rattle.std.specs.Prelude.{ℕ, List}
use Rattle.ats_grammar.specs.Front.{IsBad}
use Rattle.ats_refusal.specs.declared.catalog.CatalogRefusal.{CatalogRefusal}
use Rattle.ats_catalog_bytes.specs.Grammar.{catalog_schema}
use Rattle.ats_catalog_bytes.specs.Value.{Framed, IsCatalogProof}
use Rattle.ats_catalog_check.specs.Accepts.{AcceptsCatalog, IsFirstCatalogRefusal, AreRowsOf}
use Rattle.ats_catalog_check.specs.Headline.{IsCatalogTopOrCollides}
use Rattle.ats_catalog_check.specs.declared.fault.CatalogFault.{CatalogFault}
use Rattle.ats_catalog_check.specs.declared.fault.CatalogFault.TheVariants.{Shape, Refused, OutOfMemory}
use Rattle.ats_catalog_check.specs.declared.row.CatalogRow.{CatalogRow}

-- the bytes spell what is shown of these shards, and it is accepted under the root for the query
pub record IsAcceptedCatalog (H : List ℕ → List ℕ) (root : List ℕ) (query : List (List ℕ × ℕ)) (r : ℕ) (bytes : List ℕ) (shards : List Framed) : Type 0 where
  pub says : IsCatalogProof bytes shards
  pub accepts : AcceptsCatalog H root query r shards

-- the bytes spell what is refused under the root for the query, by this rule first
pub record IsRefusedCatalog (H : List ℕ → List ℕ) (root : List ℕ) (query : List (List ℕ × ℕ)) (r : ℕ) (bytes : List ℕ) (refusal : CatalogRefusal) : Type 0 where
  pub shards : List Framed
  pub says : IsCatalogProof bytes shards
  pub refused : IsFirstCatalogRefusal H root query r shards refusal

-- the bytes are accepted with these rows, and the headline holds for them
pub record AreVerifiedRows (H : List ℕ → List ℕ) (root : List ℕ) (query : List (List ℕ × ℕ)) (r : ℕ) (bytes : List ℕ) (rows : List CatalogRow) : Type 0 where
  pub shards : List Framed
  pub accepted : IsAcceptedCatalog H root query r bytes shards
  pub headline : IsCatalogTopOrCollides H root query r shards
  pub answer : AreRowsOf query shards rows

-- why no rows were returned; out of memory needs no cause in the bytes
abbrev pub IsCatalogFault : (List ℕ → List ℕ) → List ℕ → List (List ℕ × ℕ) → ℕ → List ℕ → CatalogFault → Type 0
IsCatalogFault H root query r bytes (Shape fault) = IsBad catalog_schema bytes fault
IsCatalogFault H root query r bytes (Refused refusal) = IsRefusedCatalog H root query r bytes refusal
IsCatalogFault H root query r bytes OutOfMemory = Unit {0}
