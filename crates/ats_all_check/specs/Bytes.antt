-- When bytes are accepted under a root for a query, and by which rule they are refused otherwise.
use Rattle.std.specs.Prelude.{ℕ, List}
use Rattle.ats_proof.specs.Value.{Proof, IsProof}
use Rattle.ats_all_check.specs.Rules.{AcceptsBoth, IsFirstBothRefusal}
use Rattle.ats_refusal.specs.declared.documents.BothRefusal.{BothRefusal}

-- the bytes spell this proof, and it is accepted under the root for the query
pub record AreAcceptedBytes (H : List ℕ → List ℕ) (root : List ℕ) (query : List (List ℕ × ℕ)) (bytes : List ℕ) (proof : Proof) : Type 0 where
  pub says : IsProof bytes proof
  pub accepts : AcceptsBoth H root query proof

-- the bytes spell a proof that breaks this rule first under the root for the query
pub record AreRefusedBytes (H : List ℕ → List ℕ) (root : List ℕ) (query : List (List ℕ × ℕ)) (bytes : List ℕ) (refusal : BothRefusal) : Type 0 where
  pub proof : Proof
  pub says : IsProof bytes proof
  pub refused : IsFirstBothRefusal H root query proof refusal
