-- What the check of the proof that bytes spell says of the bytes.
use Rattle.std.proofs.Common.{◌≡◌, ℕ, List, Result, Ok, Err}
use Rattle.std.specs.Prelude.{OnOk, IfOk, IfErr}
use Rattle.ats_impact.specs.declared.rank.Row.{Row}
use Rattle.ats_proof.specs.Value.{Proof, IsProof}
use Rattle.ats_client.specs.Accepts.{Accepts}
use Rattle.ats_client.specs.Headline.{IsTopOrCollides}
use Rattle.ats_client.specs.Rows.{rows_of}
use Rattle.ats_client.specs.Bytes.{AreVerifiedRows, IsVerifyFault, IsProofFault}
use Rattle.ats_refusal.specs.declared.proof.Rejection.TheVariants.{Shape, Check}
use Rattle.ats_client.specs.declared.fault.VerifyFault.{VerifyFault}
use Rattle.ats_client.specs.declared.fault.VerifyFault.TheVariants.{Rejected, OutOfMemory}

module _ (H : List ℕ → List ℕ) (root : List ℕ) (query : List (List ℕ × ℕ)) (r : ℕ) (bytes : List ℕ) (proof : Proof) (says : IsProof bytes proof) where
  pub verified : (result : Result (List Row) VerifyFault) → OnOk result (Accepts H root query r proof) → OnOk result (IsTopOrCollides H root query r proof)
      → IfOk result (λ rows. rows ≡ rows_of query proof) → IfOk result (AreVerifiedRows H root query r bytes)
  verified (Ok rows) accepts headline answer = record {
    proof = proof;
    accepted = record { says = says; accepts = accepts };
    headline = headline;
    answer = answer;
  }
  verified (Err fault) accepts headline answer = tt

  fault_of_bytes : (fault : VerifyFault) → IsProofFault H root query r proof fault → IsVerifyFault H root query r bytes fault
  fault_of_bytes (Rejected (Shape shape)) is = absurd is
  fault_of_bytes (Rejected (Check refusal)) is = (proof, says, is)
  fault_of_bytes OutOfMemory is = tt

  pub rejected : (result : Result (List Row) VerifyFault) → IfErr result (IsProofFault H root query r proof) → IfErr result (IsVerifyFault H root query r bytes)
  rejected (Ok rows) is = tt
  rejected (Err fault) is = fault_of_bytes fault is
