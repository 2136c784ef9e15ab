-- When bytes are accepted as a proof, with the rows of its answer, and why they are not otherwise.
use Rattle.std.specs.Prelude.{◌≡◌, ℕ, List}
use Rattle.ats_impact.specs.declared.rank.Row.{Row}
use Rattle.ats_grammar.specs.Front.{IsBad}
use Rattle.ats_grammar.specs.Grammar.{proof_schema}
use Rattle.ats_proof.specs.Value.{Proof, IsProof}
use Rattle.ats_client.specs.Accepts.{Accepts, IsFirstRefusal}
use Rattle.ats_client.specs.Headline.{IsTopOrCollides}
use Rattle.ats_client.specs.Rows.{rows_of}
use Rattle.ats_refusal.specs.declared.proof.Rejection.{Rejection}
use Rattle.ats_refusal.specs.declared.proof.Rejection.TheVariants.{Shape, Check}
use Rattle.ats_client.specs.declared.fault.VerifyFault.{VerifyFault}
use Rattle.ats_client.specs.declared.fault.VerifyFault.TheVariants.{Rejected, OutOfMemory}

-- the bytes spell this proof, and it is accepted under the root for the query
pub record IsAcceptedBytes (H : List ℕ → List ℕ) (root : List ℕ) (query : List (List ℕ × ℕ)) (r : ℕ) (bytes : List ℕ) (proof : Proof) : Type 0 where
  pub says : IsProof bytes proof
  pub accepts : Accepts H root query r proof

-- the bytes spell an accepted proof with these rows, and the headline holds for it
pub record AreVerifiedRows (H : List ℕ → List ℕ) (root : List ℕ) (query : List (List ℕ × ℕ)) (r : ℕ) (bytes : List ℕ) (rows : List Row) : Type 0 where
  pub proof : Proof
  pub accepted : IsAcceptedBytes H root query r bytes proof
  pub headline : IsTopOrCollides H root query r proof
  pub answer : rows ≡ rows_of query proof

-- the bytes are rejected for this reason, under the root for the query: their shape first, then the rules
abbrev pub IsRejectedBytes : (List ℕ → List ℕ) → List ℕ → List (List ℕ × ℕ) → ℕ → List ℕ → Rejection → Type 0
IsRejectedBytes H root query r bytes (Shape fault) = IsBad proof_schema bytes fault
IsRejectedBytes H root query r bytes (Check refusal) = (proof : Proof) × IsProof bytes proof × IsFirstRefusal H root query r proof refusal

-- why no rows were returned; out of memory needs no cause in the bytes
abbrev pub IsVerifyFault : (List ℕ → List ℕ) → List ℕ → List (List ℕ × ℕ) → ℕ → List ℕ → VerifyFault → Type 0
IsVerifyFault H root query r bytes (Rejected rejection) = IsRejectedBytes H root query r bytes rejection
IsVerifyFault H root query r bytes OutOfMemory = Unit {0}

-- for a proof that is read already: the first rule that it breaks; out of memory needs no cause
abbrev pub IsProofFault : (List ℕ → List ℕ) → List ℕ → List (List ℕ × ℕ) → ℕ → Proof → VerifyFault → Type 0
IsProofFault H root query r proof (Rejected (Shape fault)) = ⊥
IsProofFault H root query r proof (Rejected (Check refusal)) = IsFirstRefusal H root query r proof refusal
IsProofFault H root query r proof OutOfMemory = Unit {0}
