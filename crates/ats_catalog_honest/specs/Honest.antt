-- The honest file of a catalog: the roots of its shards, and for each shard the honest proof of its share of the plain
-- ranking.
use Rattle.std.specs.Prelude.{◌≡◌, ◌<◌, ℕ, List, length, slice_index_or}
use Rattle.ats_commit.specs.Archive.{Archive}
use Rattle.ats_honest.specs.Honest.{IsHonestWithin}
use Rattle.ats_proof.specs.declared.record.Algorithm.{Algorithm}
use Rattle.ats_proof.specs.Value.{Proof}
use Rattle.ats_catalog_bytes.specs.Catalog.{archive_at, roots_of}
use Rattle.ats_catalog_bytes.specs.Value.{Framed, IsCatalogProof, shown_roots}
use Rattle.ats_catalog_check.specs.Accepts.{AreProofs}
use Rattle.ats_catalog_check.specs.Headline.{score_in, size_in}
use Rattle.ats_catalog_honest.specs.Ranking.{IsRankedBy, Ranked, shares_of}
use Rattle.ats_catalog_honest.specs.Shares.{Shares, floors_of}

-- each shard's proof is the honest one of its share, if shard i goes by the algorithm `by i`
pub record AreProofsOfShares (H : List ℕ → List ℕ) (catalog : List Archive) (query : List (List ℕ × ℕ)) (by : ℕ → Algorithm) (shares : Shares) (proofs : List Proof) : Type 0 where
  pub many : length proofs ≡ length catalog
  pub each : (i : ℕ) (d : Proof) → i < length proofs
      → IsHonestWithin H (archive_at catalog i) query (floors_of shares i) (by i) (slice_index_or proofs i d)

-- of its share of the first r rows of the plain ranking
pub record AreHonestProofs (H : List ℕ → List ℕ) (catalog : List Archive) (query : List (List ℕ × ℕ)) (r : ℕ) (by : ℕ → Algorithm) (proofs : List Proof) : Type 0 where
  pub ranking : List Ranked
  pub ranked : IsRankedBy (size_in catalog) (score_in catalog query) ranking
  pub honest : AreProofsOfShares H catalog query by (shares_of by r ranking) proofs

-- what is shown of the shards: the roots of the catalog, and bytes that spell these proofs
pub record AreFramesOf (H : List ℕ → List ℕ) (catalog : List Archive) (proofs : List Proof) (shards : List Framed) : Type 0 where
  pub roots : shown_roots shards ≡ roots_of H catalog
  pub say : AreProofs shards proofs

-- the honest file shows the honest proofs
pub record IsHonestFile (H : List ℕ → List ℕ) (catalog : List Archive) (query : List (List ℕ × ℕ)) (r : ℕ) (by : ℕ → Algorithm) (shards : List Framed) : Type 0 where
  pub proofs : List Proof
  pub honest : AreHonestProofs H catalog query r by proofs
  pub frames : AreFramesOf H catalog proofs shards

-- the bytes spell the honest file
pub record IsProvedCatalog (H : List ℕ → List ℕ) (catalog : List Archive) (query : List (List ℕ × ℕ)) (r : ℕ) (by : ℕ → Algorithm) (bytes : List ℕ) : Type 0 where
  pub shards : List Framed
  pub honest : IsHonestFile H catalog query r by shards
  pub spells : IsCatalogProof bytes shards
