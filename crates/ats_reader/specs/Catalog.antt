-- What `ats_catalog` and `ats_catalog_root` show, and why they show nothing.
use Rattle.std.specs.Prelude.{◌≡◌, ◌⊎◌, ◌≤◌, ℕ, List, length, map, IsSome}
use Rattle.sha2.specs.Sha256.{sha256}
use Rattle.ats_terms.specs.Query.{IsQueryOf}
use Rattle.ats_grammar.specs.Front.{IsBad}
use Rattle.ats_grammar.specs.Position.{AreDigests}
use Rattle.ats_catalog_bytes.specs.Catalog.{root_over}
use Rattle.ats_catalog_bytes.specs.Grammar.{catalog_schema}
use Rattle.ats_catalog_bytes.specs.Strings.{roots_collision}
use Rattle.ats_catalog_check.specs.Bytes.{AreVerifiedRows, IsRefusedCatalog}
use Rattle.ats_catalog_check.specs.declared.row.CatalogRow.{CatalogRow}
use Rattle.ats_reader.specs.Asked.{IsAsked, IsAskedFault}
use Rattle.ats_reader.specs.Shown.{IsShown}
use Rattle.ats_reader.specs.Verdicts.{shown_catalog_row, accepted}
use Rattle.ats_reader.specs.declared.fault.Fault.{Fault}
use Rattle.ats_reader.specs.declared.fault.Fault.TheVariants.{BadShape, CatalogRefused, RootsOut, OutOfMemory}
use Rattle.ats_reader.specs.declared.shown.ShownCatalogRow.{ShownCatalogRow}
use Rattle.ats_reader.specs.declared.shown.Verdict.{Verdict}

-- ---- an answer

-- the bytes are accepted as the proof of a catalog's answer under the root for the terms of the text, so that for every
-- catalog with the root its rows are right or strings collide; these rows are shown
pub record IsCatalogAnswer (root text : List ℕ) (r : ℕ) (bytes : List ℕ) (before after : List ShownCatalogRow) (verdict : Verdict) : Type 0 where
  pub asked : IsAsked text r (length before)
  pub query : List (List ℕ × ℕ)
  pub terms : IsQueryOf text query
  pub rows : List CatalogRow
  pub proved : AreVerifiedRows sha256 root query r bytes rows
  pub shown : IsShown ShownCatalogRow (map shown_catalog_row rows) before after
  pub counted : verdict ≡ accepted (length rows) 0 0

-- why nothing is shown, in the order in which it is found; out of memory needs no cause
abbrev pub IsCatalogFault : List ℕ → List ℕ → ℕ → List ℕ → ℕ → Fault → Type 0
IsCatalogFault root text r bytes room (BadShape fault) =
    IsAsked text r room × (query : List (List ℕ × ℕ)) × IsQueryOf text query × IsBad catalog_schema bytes fault
IsCatalogFault root text r bytes room (CatalogRefused refusal) =
    IsAsked text r room × (query : List (List ℕ × ℕ)) × IsQueryOf text query × IsRefusedCatalog sha256 root query r bytes refusal
IsCatalogFault root text r bytes room OutOfMemory = Unit {0}
IsCatalogFault root text r bytes room fault = IsAskedFault text r room fault

-- ---- a root

-- the bytes are these roots one after another, those of 1 to 4,096 shards
pub record AreRoots (bytes : List ℕ) (roots : List (List ℕ)) : Type 0 where
  pub some : 1 ≤ length roots
  pub few : length roots ≤ 4096
  pub joined : AreDigests (length roots) bytes roots

-- the root of the catalog of these shards is shown, so that any other such list with it is this one, or strings collide
pub record IsRootAnswer (bytes after : List ℕ) (verdict : Verdict) : Type 0 where
  pub roots : List (List ℕ)
  pub are : AreRoots bytes roots
  pub shown : after ≡ root_over sha256 roots
  pub bound : (others : List (List ℕ)) → 1 ≤ length others → length others ≤ 4096 → root_over sha256 roots ≡ root_over sha256 others
      → (roots ≡ others) ⊎ IsSome (roots_collision sha256 roots others)
  pub counted : verdict ≡ accepted (length roots) 0 0

-- why no root is shown
abbrev pub IsRootFault : List ℕ → Fault → Type 0
IsRootFault bytes (RootsOut told) = (told ≡ length bytes) × ((roots : List (List ℕ)) → AreRoots bytes roots → ⊥)
IsRootFault bytes _ = ⊥
