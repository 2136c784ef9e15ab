-- What an audit of bytes against the archives of a catalog finds.
use Rattle.std.specs.Prelude.{◌≡◌, ◌≢◌, ◌⊎◌, false, ℕ, List, Option, None, Some}
use Rattle.ats_tree.specs.Differences.{Difference}
use Rattle.ats_commit.specs.Archive.{Archive}
use Rattle.ats_proof.specs.Value.{Proof}
use Rattle.ats_catalog_bytes.specs.Catalog.{IsCatalog, catalog_root}
use Rattle.ats_catalog_bytes.specs.Strings.{catalog_place}
use Rattle.ats_catalog_bytes.specs.Value.{Framed}
use Rattle.ats_catalog_check.specs.Accepts.{AreProofs, merged_rows}
use Rattle.ats_catalog_check.specs.Bytes.{IsAcceptedCatalog, IsRefusedCatalog}
use Rattle.ats_catalog_check.specs.Headline.{AreRightIn}
use Rattle.ats_catalog_check.specs.Strings.{CatalogPlace, over_roots, in_proof, catalog_collision}
use Rattle.ats_catalog_check.specs.declared.row.CatalogRow.{CatalogRow}
use Rattle.ats_catalog_audit.specs.declared.verdict.CatalogClash.{CatalogClash}
use Rattle.ats_catalog_audit.specs.declared.verdict.CatalogVerdict.{CatalogVerdict}
use Rattle.ats_catalog_audit.specs.declared.verdict.CatalogVerdict.TheVariants.{Refused, Right, Collision}
use Rattle.ats_catalog_audit.specs.declared.verdict.StringPlace.{StringPlace}
use Rattle.ats_catalog_audit.specs.declared.verdict.StringPlace.TheVariants.{Header, Roots, Shard}

-- where a string of a clash is hashed
abbrev pub place_of : StringPlace → CatalogPlace
place_of Header = over_roots catalog_place
place_of (Roots depth turns) = over_roots (record { header = false; depth = depth; turns = turns })
place_of (Shard shard place) = in_proof shard place

-- the two strings of a clash, with their place
abbrev pub difference_of : CatalogClash → Difference CatalogPlace
difference_of clash = record { place = place_of clash.place; ours = clash.ours; theirs = clash.theirs }

-- what the bytes show of the shards, and the proof of each
pub record Shards : Type 0 where
  pub frames : List Framed
  pub proofs : List Proof

-- the bytes are accepted under the root as what is shown of these shards, and these are their proofs
pub record AreAcceptedShards (H : List ℕ → List ℕ) (root : List ℕ) (query : List (List ℕ × ℕ)) (r : ℕ) (bytes : List ℕ) (shards : Shards) : Type 0 where
  pub accepted : IsAcceptedCatalog H root query r bytes shards.frames
  pub say : AreProofs shards.frames shards.proofs

-- the first collision of what is shown of shards with a catalog
abbrev pub shards_collision : (List ℕ → List ℕ) → List Archive → List (List ℕ × ℕ) → Shards → Option (Difference CatalogPlace)
shards_collision H catalog query shards = catalog_collision H catalog query shards.frames shards.proofs

-- the bytes are accepted under the catalog's root and have no collision with the catalog; the rows are the answer's, and they
-- are right for the catalog
pub record IsFoundRight (H : List ℕ → List ℕ) (catalog : List Archive) (query : List (List ℕ × ℕ)) (r : ℕ) (bytes : List ℕ) (rows : List CatalogRow) : Type 0 where
  pub shards : Shards
  pub accepted : AreAcceptedShards H (catalog_root H catalog) query r bytes shards
  pub none : shards_collision H catalog query shards ≡ None
  pub answer : rows ≡ merged_rows query shards.proofs
  pub right : AreRightIn catalog query r rows

-- the bytes are accepted under the catalog's root, and this is their first collision with the catalog
pub record IsFoundClash (H : List ℕ → List ℕ) (catalog : List Archive) (query : List (List ℕ × ℕ)) (r : ℕ) (bytes : List ℕ) (clash : CatalogClash) : Type 0 where
  pub shards : Shards
  pub accepted : AreAcceptedShards H (catalog_root H catalog) query r bytes shards
  pub found : shards_collision H catalog query shards ≡ Some (difference_of clash)

-- the verdict on the bytes against the catalog
abbrev pub IsCatalogVerdict : (List ℕ → List ℕ) → List Archive → List (List ℕ × ℕ) → ℕ → List ℕ → CatalogVerdict → Type 0
IsCatalogVerdict H catalog query r bytes (Refused refusal) = IsRefusedCatalog H (catalog_root H catalog) query r bytes refusal
IsCatalogVerdict H catalog query r bytes (Right rows) = IsFoundRight H catalog query r bytes rows.rows
IsCatalogVerdict H catalog query r bytes (Collision clash) = IsFoundClash H catalog query r bytes clash

-- the verdict contains two different strings with equal digests
abbrev pub TellsCatalogCollision : (List ℕ → List ℕ) → CatalogVerdict → Type 0
TellsCatalogCollision H (Collision clash) = (clash.ours ≢ clash.theirs) × (H clash.ours ≡ H clash.theirs)
TellsCatalogCollision H (Refused refusal) = ⊥
TellsCatalogCollision H (Right rows) = ⊥

-- The headline for an audit: for every catalog with this root, either the rows are right for it, or every verdict on the
-- bytes against that catalog contains two different strings with equal digests.
abbrev pub IsCatalogTopOrTold : (List ℕ → List ℕ) → List ℕ → List (List ℕ × ℕ) → ℕ → List ℕ → List Framed → Type 0
IsCatalogTopOrTold H root query r bytes shards = (catalog : List Archive) → IsCatalog catalog → catalog_root H catalog ≡ root
    → (proofs : List Proof) → AreProofs shards proofs
    → AreRightIn catalog query r (merged_rows query proofs)
    ⊎ ((verdict : CatalogVerdict) → IsCatalogVerdict H catalog query r bytes verdict → TellsCatalogCollision H verdict)
