-- A text has at most one first refusal, and none if it is accepted.
use Rattle.std.proofs.Common.{◌≡◌, ℕ, List, true, Result, Ok, Err, refl}
use Rattle.std.specs.Result.{is_ok, IfErr}
use Rattle.ats_base.proofs.Public.{AreExact, one_way, not_all_hold, one_first}
use Rattle.ats_text_check.specs.Accepts.{text_rules, AcceptsText, IsFirstTextRefusal}
use Rattle.ats_text_check.specs.Value.{TextProof}
use Rattle.ats_refusal.specs.declared.text.TextRefusal.{TextRefusal}

exact : (H : List ℕ → List ℕ) (root : List ℕ) (doc : ℕ) (proof : TextProof) → AreExact (text_rules H root doc proof)
exact H root doc proof = (one_way _ _, (one_way _ _, (one_way _ _, (one_way _ _, tt))))

pub one_refusal : (H : List ℕ → List ℕ) (root : List ℕ) (doc : ℕ) (proof : TextProof) (a b : TextRefusal)
    → IsFirstTextRefusal H root doc proof a → IsFirstTextRefusal H root doc proof b → a ≡ b
one_refusal H root doc proof a b is also = one_first (text_rules H root doc proof) a b (exact H root doc proof) is.first also.first

-- a text that is accepted is not refused
pub not_refused : (H : List ℕ → List ℕ) (root : List ℕ) (doc : ℕ) (proof : TextProof) (refusal : TextRefusal)
    → AcceptsText H root doc proof → IsFirstTextRefusal H root doc proof refusal → ⊥
not_refused H root doc proof refusal accepts is = not_all_hold (text_rules H root doc proof) refusal (exact H root doc proof) is.first accepts.holds

pub accepted : (H : List ℕ → List ℕ) (root : List ℕ) (doc : ℕ) (proof : TextProof) (result : Result (Unit {0}) TextRefusal)
    → IfErr result (λ refusal. IsFirstTextRefusal H root doc proof refusal) → AcceptsText H root doc proof → is_ok result ≡ true
accepted H root doc proof (Ok done) refused accepts = refl
accepted H root doc proof (Err refusal) refused accepts = absurd (not_refused H root doc proof refusal accepts refused)
