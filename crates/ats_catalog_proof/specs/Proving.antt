-- A file of a catalog that is made shard by shard.
use Rattle.std.specs.Prelude.{◌≡◌, ◌⊎◌, ◌<◌, ◌≤◌, ◌+◌, ◌^◌, ◌++◌, ◌∷◌, ℕ, List, [], length, slice_index_or}
use Rattle.std.specs.List.{concat}
use Rattle.ats_commit.specs.Archive.{Archive}
use Rattle.ats_commit.specs.Root.{root_of}
use Rattle.ats_bound.specs.Floors.{Floors, floors_of_share}
use Rattle.ats_proof.specs.Written.{writing}
use Rattle.ats_proof.specs.Value.{Proof}
use Rattle.ats_proof.specs.declared.record.Algorithm.{Algorithm}
use Rattle.ats_proof.specs.declared.record.Algorithm.TheVariants.{Tra, Tnra}
use Rattle.ats_honest.specs.Honest.{IsHonestWithin, IsProvedBy, IsTooLongBy}
use Rattle.ats_catalog_bytes.specs.Catalog.{archive_at, roots_of}
use Rattle.ats_catalog_bytes.specs.Value.{Framed, fields_of}
use Rattle.ats_catalog_honest.specs.Honest.{IsHonestFile}
use Rattle.ats_catalog_honest.specs.Ranking.{Ranked, shares_of}
use Rattle.ats_catalog_honest.specs.Shares.{floors_of, share_of}
use Rattle.ats_catalog_proof.specs.ProvingState.{ProvingState}
use Rattle.ats_catalog_proof.specs.Ranking.{IsRankingOf}
use Rattle.ats_catalog_proof.specs.RankingState.{RankingState}
use Rattle.ats_catalog_proof.specs.Written.{bytes_of}
use Rattle.ats_catalog_proof.specs.declared.fault.CatalogProveFault.{CatalogProveFault}
use Rattle.ats_catalog_proof.specs.declared.fault.CatalogProveFault.TheVariants.{OtherIndex, ProofTooLong, OutOfMemory}

-- what shard i is asked for, if all shards go by one algorithm; by TRA, which shows scores, the last edge is enough
abbrev pub asked_of : Algorithm → ℕ → List Ranked → ℕ → Floors
asked_of Tra r ranking i = floors_of_share (share_of (shares_of (λ _. Tra) r ranking) i)
asked_of Tnra r ranking i = floors_of (shares_of (λ _. Tnra) r ranking) i

-- the honest proof of that by an archive
abbrev pub IsAskedProof : (List ℕ → List ℕ) → Archive → List (List ℕ × ℕ) → Algorithm → ℕ → List Ranked → ℕ → Proof → Type 0
IsAskedProof H archive query algorithm r ranking i proof = IsHonestWithin H archive query (asked_of algorithm r ranking i) algorithm proof

-- The first pass has taken the archives of a catalog. Their roots are written, and the proofs of the first shards.
-- Each proof is the honest one of what its shard is asked for.
pub record IsProving (H : List ℕ → List ℕ) (catalog : List Archive) (query : List (List ℕ × ℕ)) (r : ℕ) (state : ProvingState) : Type 0 where
  pub ranked : IsRankingOf H catalog query r state.ranking
  pub proofs : List (List ℕ)
  pub many : length proofs ≡ state.proved
  pub each : (i : ℕ) (d : List ℕ) → i < length proofs
      → IsProvedBy (IsAskedProof H (archive_at catalog i) query state.algorithm r ranked.ranking i) (slice_index_or proofs i d)
  pub written : state.written ≡ writing (2 ^ 28) (bytes_of (roots_of H catalog) proofs)

-- no shard has its proof yet
pub record HasBegun (H : List ℕ → List ℕ) (ranking : RankingState) (algorithm : Algorithm) (after : ProvingState) : Type 0 where
  pub kept : after.ranking ≡ ranking
  pub by : after.algorithm ≡ algorithm
  pub none : after.proved ≡ 0
  pub written : after.written ≡ writing (2 ^ 28) (bytes_of ranking.roots [])
  pub goes : (catalog : List Archive) (query : List (List ℕ × ℕ)) (r : ℕ)
      → IsRankingOf H catalog query r ranking → IsProving H catalog query r after

-- The next shard has its proof too, over an archive with the root that the first pass took for it. The file is that of the
-- catalog if the archive is, too.
pub record HasProved (H : List ℕ → List ℕ) (archive : Archive) (before after : ProvingState) : Type 0 where
  pub kept : after.ranking ≡ before.ranking
  pub by : after.algorithm ≡ before.algorithm
  pub one : after.proved ≡ before.proved + 1
  pub root : root_of H archive ≡ slice_index_or before.ranking.roots before.proved []
  pub proof : List ℕ
  pub asked : (catalog : List Archive) (query : List (List ℕ × ℕ)) (r : ℕ) → (is : IsRankingOf H catalog query r before.ranking)
      → IsProvedBy (IsAskedProof H archive query before.algorithm r is.ranking before.proved) proof
  pub short : length proof ≤ 2 ^ 26
  pub written : (proofs : List (List ℕ)) → before.written ≡ writing (2 ^ 28) (bytes_of before.ranking.roots proofs)
      → after.written ≡ writing (2 ^ 28) (bytes_of before.ranking.roots (proofs ++ proof ∷ []))
  pub goes : (catalog : List Archive) (query : List (List ℕ × ℕ)) (r : ℕ)
      → archive ≡ archive_at catalog before.proved
      → IsProving H catalog query r before → IsProving H catalog query r after

-- the archive has the root of this shard
abbrev pub HasRootOf : (List ℕ → List ℕ) → (catalog : List Archive) → (shard : ℕ) → Archive → Type 0
HasRootOf H catalog shard archive = root_of H archive ≡ root_of H (archive_at catalog shard)

-- Why a shard has no proof. The archive is another than the first pass took for it: it has another root, or no honest proof
-- of what the shard is asked for. Or that proof is longer than proofs may be, or memory ran out.
abbrev pub IsProveFault : (List ℕ → List ℕ) → List Archive → List (List ℕ × ℕ) → List Ranked → ℕ → Archive → ProvingState → CatalogProveFault → Type 0
IsProveFault H catalog query ranking r archive state (OtherIndex shard) = (shard ≡ state.proved)
    × (¬ HasRootOf H catalog state.proved archive
    ⊎ (HasRootOf H catalog state.proved archive
    × ((proof : Proof) → ¬ IsAskedProof H archive query state.algorithm r ranking state.proved proof)))
IsProveFault H catalog query ranking r archive state (ProofTooLong shard length) =
    (shard ≡ state.proved) × HasRootOf H catalog state.proved archive
    × IsTooLongBy (IsAskedProof H archive query state.algorithm r ranking state.proved) (2 ^ 26) length
IsProveFault H catalog query ranking r archive state OutOfMemory = Unit {0}

-- the honest file has this many bytes, and they are more than a file may have
pub record IsTooLongCatalog (H : List ℕ → List ℕ) (catalog : List Archive) (query : List (List ℕ × ℕ)) (r : ℕ) (algorithm : Algorithm) (bytes : ℕ) : Type 0 where
  pub shards : List Framed
  pub honest : IsHonestFile H catalog query r (λ _. algorithm) shards
  pub bytes_are : bytes ≡ length (concat (fields_of shards))
  pub beyond : 2 ^ 28 < bytes
