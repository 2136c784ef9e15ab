-- What the check of a shard finds of its proof, and what it leaves.
use Rattle.std.specs.Prelude.{◌≡◌, ◌<◌, ℕ, Bool, List, length, map, take, true, false}
use Rattle.std.specs.List.{AllZip}
use Rattle.ats_proof.specs.Value.{Proof, IsProof}
use Rattle.ats_client.specs.Accepts.{AcceptsShown}
use Rattle.ats_client.specs.Bounded.{AreBoundedOrCollide, rest_of}
use Rattle.ats_catalog_bytes.specs.Value.{Framed, frame_at}
use Rattle.ats_refusal.specs.declared.proof.Rejection.{Rejection}
use Rattle.ats_refusal.specs.declared.catalog.CatalogRefusal.{CatalogRefusal}
use Rattle.ats_refusal.specs.declared.catalog.CatalogRefusal.TheVariants.{Shard}
use Rattle.ats_catalog_check.specs.Accepts.{IsShardRejection, shown_of}
use Rattle.ats_catalog_check.specs.Inner.Kept.{HasOrdered, IsKeptIf}
use Rattle.ats_catalog_check.specs.Merge.{merge, merged, in_shard, greatest_rest}
use Rattle.ats_catalog_check.specs.declared.row.CatalogRow.{CatalogRow}

-- the bytes of a shard spell this proof, which keeps all rules before the settling; its rows are bounded
pub record IsChecked (H : List ℕ → List ℕ) (query : List (List ℕ × ℕ)) (one : Framed) (proof : Proof) : Type 0 where
  pub says : IsProof one.bytes proof
  pub accepts : AcceptsShown H one.root query proof
  pub bounded : AreBoundedOrCollide H one.root query proof
  pub ordered : HasOrdered (shown_of query proof)

-- what is left after one more shard, of which it is known what its bytes spell
pub record IsLeft (H : List ℕ → List ℕ) (query : List (List ℕ × ℕ)) (r shard : ℕ) (one : Framed) (before : List CatalogRow) (fell : Bool) (after : List CatalogRow) (falls : Bool) (rest : ℕ) : Type 0 where
  pub proof : Proof
  pub checked : IsChecked H query one proof
  pub rest_is : rest ≡ rest_of query proof
  pub kept : fell ≡ true → IsKeptIf r falls after (merge before (map (in_shard shard) (shown_of query proof).rows))
  pub none : fell ≡ false → falls ≡ false

-- what is left of the shards so far
pub record AreLeft (H : List ℕ → List ℕ) (query : List (List ℕ × ℕ)) (r : ℕ) (shards : List Framed) (rows : List CatalogRow) (fall : Bool) (rest : ℕ) : Type 0 where
  pub proofs : List Proof
  pub checked : AllZip (IsChecked H query) shards proofs
  pub kept : IsKeptIf r fall rows (merged (map (shown_of query) proofs))
  pub rest_is : rest ≡ greatest_rest (map (shown_of query) proofs)

-- the proofs of the shards before this one are checked, and this one's is refused
pub record IsShardRefused (H : List ℕ → List ℕ) (query : List (List ℕ × ℕ)) (shards : List Framed) (shard : ℕ) (rejection : Rejection) : Type 0 where
  pub inside : shard < length shards
  pub proofs : List Proof
  pub before : AllZip (IsChecked H query) (take shard shards) proofs
  pub refused : IsShardRejection H query (frame_at shards shard) rejection

abbrev pub ShardsFail : (List ℕ → List ℕ) → List (List ℕ × ℕ) → List Framed → CatalogRefusal → Type 0
ShardsFail H query shards (Shard shard rejection) = IsShardRefused H query shards shard rejection
ShardsFail H query shards _ = ⊥
