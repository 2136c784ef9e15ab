-- What a prover keeps.
use Rattle.std.specs.Prelude.{ℕ}
use Rattle.ats_proof.specs.Written.{Written}
use Rattle.ats_proof.specs.declared.record.Algorithm.{Algorithm}
use Rattle.ats_catalog_proof.specs.RankingState.{RankingState}

-- what the first pass found, the algorithm of all proofs, what was written of the file, and how many shards have their
-- proof in it
pub record ProvingState : Type 0 where
  pub ranking : RankingState
  pub algorithm : Algorithm
  pub written : Written
  pub proved : ℕ
