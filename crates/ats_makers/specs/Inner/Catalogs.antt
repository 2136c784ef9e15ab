-- The second pass over the indexes of a catalog, as its functions return it.
use Rattle.std.specs.Prelude.{◌≡◌, ◌⊎◌, ◌^◌, ℕ, List, length}
use Rattle.ats_commit.specs.Archive.{Archive}
use Rattle.ats_proof.specs.Value.{Proof}
use Rattle.ats_proof.specs.Written.{writing}
use Rattle.ats_proof.specs.declared.record.Algorithm.{Algorithm}
use Rattle.ats_catalog_proof.specs.Proving.{HasRootOf}
use Rattle.ats_catalog_proof.specs.ProvingState.{ProvingState}
use Rattle.ats_catalog_proof.specs.RankingState.{RankingState}
use Rattle.ats_catalog_proof.specs.Written.{bytes_of}
use Rattle.ats_console.specs.declared.stops.Stop.{Stop}
use Rattle.ats_makers.specs.Commands.{HasOtherRoot, IsShardUnmade}
use Rattle.ats_makers.specs.Inner.Stops.{OrMemory}

-- a prover over this ranking that has written these proofs
pub record HasWritten (ranking : RankingState) (algorithm : Algorithm) (proofs : List (List ℕ)) (state : ProvingState) : Type 0 where
  pub kept : state.ranking ≡ ranking
  pub by : state.algorithm ≡ algorithm
  pub many : state.proved ≡ length proofs
  pub written : state.written ≡ writing (2 ^ 28) (bytes_of ranking.roots proofs)

-- why an archive gives no proof of what a shard is asked for: it has another root, or that proof is not made; or memory ran out
abbrev pub IsShardStop : (List ℕ → List ℕ) → (catalog : List Archive) → (asked : Archive → ℕ → Proof → Type 0) → (shard : ℕ) → Archive
    → Stop → Type 0
IsShardStop H catalog asked shard archive stop = OrMemory (λ told. HasOtherRoot H catalog shard archive told
    ⊎ (HasRootOf H catalog shard archive × IsShardUnmade (asked archive shard) shard told)) stop
