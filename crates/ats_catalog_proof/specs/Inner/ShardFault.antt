-- Why an index gives no proof of what a shard is asked for.
use Rattle.std.specs.Prelude.{◌≡◌, ◌^◌, ℕ, List}
use Rattle.ats_commit.specs.Archive.{Archive}
use Rattle.ats_proof.specs.declared.record.Algorithm.{Algorithm}
use Rattle.ats_proof.specs.Value.{Proof}
use Rattle.ats_honest.specs.Honest.{IsTooLongBy}
use Rattle.ats_catalog_proof.specs.Proving.{IsAskedProof}
use Rattle.ats_catalog_proof.specs.RankingState.{RankingState}
use Rattle.ats_catalog_proof.specs.declared.fault.CatalogProveFault.{CatalogProveFault}
use Rattle.ats_catalog_proof.specs.declared.fault.CatalogProveFault.TheVariants.{OtherIndex, ProofTooLong, OutOfMemory}

-- the honest proof of what the rows that are kept ask of a shard
abbrev pub IsKeptProof : (List ℕ → List ℕ) → Archive → RankingState → Algorithm → ℕ → Proof → Type 0
IsKeptProof H archive kept algorithm shard proof = IsAskedProof H archive kept.query algorithm kept.r kept.rows shard proof

-- no cut gives an honest proof, or it is too long, or memory ran out
abbrev pub IsShardFault : (Proof → Type 0) → ℕ → CatalogProveFault → Type 0
IsShardFault Honest next (OtherIndex shard) = (shard ≡ next) × ((proof : Proof) → ¬ Honest proof)
IsShardFault Honest next (ProofTooLong shard length) = (shard ≡ next) × IsTooLongBy Honest (2 ^ 26) length
IsShardFault Honest next OutOfMemory = Unit {0}
