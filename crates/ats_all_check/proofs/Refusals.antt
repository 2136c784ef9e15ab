-- A proof is refused by one rule, and not if it is accepted.
use Rattle.std.proofs.Common.{◌≡◌, ℕ, List, true, Result, Ok, Err, refl, ap, subst}
use Rattle.std.specs.Result.{is_ok, IfErr}
use Rattle.ats_base.specs.Rules.{AllHold}
use Rattle.ats_base.proofs.Public.{AreExact, one_way, not_all_hold, one_first}
use Rattle.ats_proof.specs.Value.{Proof}
use Rattle.ats_client.specs.Accepts.{section_rules}
use Rattle.ats_proof.proofs.Public.{one_value}
use Rattle.ats_client.proofs.Public.{section_rules_do_not_hold, one_section}
use Rattle.ats_all_check.specs.Rules.{rules, AcceptsBoth, IsFirstBothRefusal, IsSectionFault}
use Rattle.ats_all_check.specs.Bytes.{AreAcceptedBytes, AreRefusedBytes}
use Rattle.ats_refusal.specs.declared.documents.BothRefusal.{BothRefusal}
use Rattle.ats_refusal.specs.declared.documents.BothRefusal.TheVariants.{Section}

module _ (H : List ℕ → List ℕ) (root : List ℕ) (query : List (List ℕ × ℕ)) (proof : Proof) where
  one_in_sections : (a b : BothRefusal) → IsSectionFault H root query proof a → IsSectionFault H root query proof b → a ≡ b
  one_in_sections (Section a) (Section b) is also = ap Section (one_section H root query proof a b is also)
  one_in_sections (Section a) _ is also = absurd also
  one_in_sections _ b is also = absurd is

  breaks_sections : (a : BothRefusal) → IsSectionFault H root query proof a → AllHold (section_rules H root query proof) → ⊥
  breaks_sections (Section a) is holds = section_rules_do_not_hold H root query proof a is holds
  breaks_sections _ is holds = is

  exact : AreExact (rules H root query proof)
  exact = (one_way _ _, (one_way _ _, (record { breaks = breaks_sections; one = one_in_sections }, (one_way _ _, tt))))

  pub one_refusal : (a b : BothRefusal) → IsFirstBothRefusal H root query proof a → IsFirstBothRefusal H root query proof b → a ≡ b
  one_refusal a b is also = one_first (rules H root query proof) a b exact is.first also.first

  pub not_both : (refusal : BothRefusal) → AcceptsBoth H root query proof → IsFirstBothRefusal H root query proof refusal → ⊥
  not_both refusal accepts is = not_all_hold (rules H root query proof) refusal exact is.first accepts.holds

  pub accepted : {T : Type 0} (result : Result T BothRefusal) → IfErr result (IsFirstBothRefusal H root query proof) → AcceptsBoth H root query proof → is_ok result ≡ true
  accepted (Ok unit) refused accepts = refl
  accepted (Err refusal) refused accepts = absurd (not_both refusal accepts refused)

module _ (H : List ℕ → List ℕ) (root : List ℕ) (query : List (List ℕ × ℕ)) (bytes : List ℕ) where
  pub one_of_bytes : (a b : BothRefusal) → AreRefusedBytes H root query bytes a → AreRefusedBytes H root query bytes b → a ≡ b
  one_of_bytes a b is also =
      let same : also.proof ≡ is.proof = one_value bytes also.proof is.proof also.says is.says in
      one_refusal H root query is.proof a b is.refused (subst (λ (p : Proof). IsFirstBothRefusal H root query p b) same also.refused)

  pub not_refused : (proof : Proof) (refusal : BothRefusal) → AreAcceptedBytes H root query bytes proof → AreRefusedBytes H root query bytes refusal → ⊥
  not_refused proof refusal is refused =
      let same : proof ≡ refused.proof = one_value bytes proof refused.proof is.says refused.says in
      not_both H root query refused.proof refusal (subst (AcceptsBoth H root query) same is.accepts) refused.refused
