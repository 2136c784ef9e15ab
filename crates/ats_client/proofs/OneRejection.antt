-- Bytes are rejected in at most one way, and in none if they are accepted.
use Rattle.std.proofs.Common.{◌≡◌, ℕ, List, ap, subst}
use Rattle.ats_grammar.specs.Grammar.{proof_schema}
use Rattle.ats_grammar.proofs.Public.{no_fault, one_fault}
use Rattle.ats_proof.specs.Value.{Proof, fields_of}
use Rattle.ats_proof.proofs.Public.{one_value}
use Rattle.ats_client.specs.Accepts.{Accepts, IsFirstRefusal}
use Rattle.ats_client.specs.Bytes.{IsAcceptedBytes, IsRejectedBytes}
use Rattle.ats_refusal.specs.declared.proof.Rejection.{Rejection}
use Rattle.ats_refusal.specs.declared.proof.Rejection.TheVariants.{Shape, Check}
use Rattle.ats_client.proofs.OneRefusal.{not_both, one_refusal}

module _ (H : List ℕ → List ℕ) (root : List ℕ) (query : List (List ℕ × ℕ)) (r : ℕ) (bytes : List ℕ) where
  -- a proof has no fault
  pub one_rejection : (a b : Rejection) → IsRejectedBytes H root query r bytes a → IsRejectedBytes H root query r bytes b → a ≡ b
  one_rejection (Shape a) (Shape b) is also = ap Shape (one_fault proof_schema bytes a b is also)
  one_rejection (Shape a) (Check b) is also = absurd (no_fault proof_schema bytes a (fields_of also.0) is also.1.spells)
  one_rejection (Check a) (Shape b) is also = absurd (no_fault proof_schema bytes b (fields_of is.0) also is.1.spells)
  one_rejection (Check a) (Check b) is also =
      let same = one_value bytes also.0 is.0 also.1 is.1 in
      ap Check (one_refusal H root query r is.0 a b is.2 (subst (λ (p : Proof). IsFirstRefusal H root query r p b) same also.2))

  -- an accepted proof has no fault, and satisfies all rules
  pub accepted_not_refused : (proof : Proof) (rejection : Rejection) → IsAcceptedBytes H root query r bytes proof → IsRejectedBytes H root query r bytes rejection → ⊥
  accepted_not_refused proof (Shape fault) is rejected = no_fault proof_schema bytes fault (fields_of proof) rejected is.says.spells
  accepted_not_refused proof (Check refusal) is rejected =
      let same = one_value bytes proof rejected.0 is.says rejected.1 in
      not_both H root query r rejected.0 refusal (subst (Accepts H root query r) same is.accepts) rejected.2
