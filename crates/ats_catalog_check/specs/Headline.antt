-- What an accepted proof of a catalog's answer says of each catalog with the root.
use Rattle.std.specs.Prelude.{◌≡◌, ◌⊎◌, ℕ, List, [], length, slice_index_or, IsSome}
use Rattle.ats_impact.specs.Score.{score}
use Rattle.ats_commit.specs.Archive.{Archive}
use Rattle.ats_proof.specs.Value.{Proof}
use Rattle.ats_catalog_bytes.specs.Catalog.{IsCatalog, archive_at, catalog_root}
use Rattle.ats_catalog_bytes.specs.Value.{Framed}
use Rattle.ats_catalog_check.specs.Accepts.{AreProofs, merged_rows}
use Rattle.ats_catalog_check.specs.Strings.{catalog_collision}
use Rattle.ats_catalog_check.specs.Top.{AreRightBy}
use Rattle.ats_catalog_check.specs.declared.row.CatalogRow.{CatalogRow}

-- the texts of the shard with this number; past the last there are none
abbrev pub texts_of : List Archive → ℕ → List (List ℕ)
texts_of catalog shard = (archive_at catalog shard).texts

-- how many documents the shard has
abbrev pub size_in : List Archive → ℕ → ℕ
size_in catalog shard = length (texts_of catalog shard)

-- the score of a document in its own shard
abbrev pub score_in : List Archive → List (List ℕ × ℕ) → ℕ → ℕ → ℕ
score_in catalog query shard doc = score (texts_of catalog shard) query (slice_index_or (texts_of catalog shard) doc [])

-- the rows are a top answer of all documents of the catalog, and each row's bounds enclose the score of its document
abbrev pub AreRightIn : List Archive → List (List ℕ × ℕ) → ℕ → List CatalogRow → Type 0
AreRightIn catalog query r rows = AreRightBy (size_in catalog) (score_in catalog query) r rows

-- The headline: for every catalog with this root, either the rows are right for it, or the strings of the proof and those
-- of the catalog contain two different ones with equal digests.
abbrev pub IsCatalogTopOrCollides : (List ℕ → List ℕ) → List ℕ → List (List ℕ × ℕ) → ℕ → List Framed → Type 0
IsCatalogTopOrCollides H root query r shards = (catalog : List Archive) → IsCatalog catalog → catalog_root H catalog ≡ root
    → (proofs : List Proof) → AreProofs shards proofs
    → AreRightIn catalog query r (merged_rows query proofs) ⊎ IsSome (catalog_collision H catalog query shards proofs)
