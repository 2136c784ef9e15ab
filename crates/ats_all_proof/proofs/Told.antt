-- What an audit reports of an accepted proof.
use Rattle.std.proofs.Common.{◌≡◌, ℕ, List, length, IsSome, sym, subst, inl, inr}
use Rattle.ats_terms.specs.Query.{IsQuery}
use Rattle.ats_grammar.specs.Grammar.{proof_schema}
use Rattle.ats_grammar.proofs.Public.{no_fault}
use Rattle.ats_commit.specs.Archive.{Archive}
use Rattle.ats_commit.specs.Root.{root_of}
use Rattle.ats_proof.specs.Value.{Proof, fields_of}
use Rattle.ats_proof.proofs.Public.{one_value}
use Rattle.ats_client.specs.Sections.{difference_of}
use Rattle.ats_client.specs.Strings.{proof_collision}
use Rattle.ats_client.proofs.Public.{collision-collides, none_some}
use Rattle.ats_all_check.specs.Bytes.{AreAcceptedBytes}
use Rattle.ats_all_check.proofs.Public.{not_refused, both_or_collide}
use Rattle.ats_all_proof.specs.Verdicts.{IsBothVerdict, TellsBothCollision, AreBothOrTold}
use Rattle.ats_all_proof.specs.declared.verdict.BothVerdict.{BothVerdict}
use Rattle.ats_all_proof.specs.declared.verdict.BothVerdict.TheVariants.{BadShape, Refused, Right, Collision}

module _ (H : List ℕ → List ℕ) (archive : Archive) (query : List (List ℕ × ℕ)) (bytes : List ℕ) (proof : Proof)
    (accepted : AreAcceptedBytes H (root_of H archive) query bytes proof) (some : IsSome (proof_collision H archive query proof)) where
  tells : (verdict : BothVerdict) → IsBothVerdict H archive query bytes verdict → TellsBothCollision H verdict
  tells (BadShape fault) found = no_fault proof_schema bytes fault (fields_of proof) found accepted.says.spells
  tells (Refused refusal) found = not_refused H (root_of H archive) query bytes proof refusal accepted found
  tells (Right documents) found =
      let same : proof ≡ found.proof = one_value bytes proof found.proof accepted.says found.accepted.says in
      none_some (proof_collision H archive query found.proof) found.none (subst (λ (p : Proof). IsSome (proof_collision H archive query p)) same some)
  tells (Collision clash) found = collision-collides H archive query found.proof (difference_of clash) found.found

pub told : (H : List ℕ → List ℕ) → ((m : List ℕ) → length (H m) ≡ 32) → (root : List ℕ) (query : List (List ℕ × ℕ)) (bytes : List ℕ) (proof : Proof) → IsQuery query
    → AreAcceptedBytes H root query bytes proof → AreBothOrTold H root query bytes proof
told H sized root query bytes proof asked accepted archive are is =
    elim (both_or_collide H sized root query bytes proof asked accepted.says accepted.accepts archive are is) [
      | inl right ↦ inl right
      | inr some ↦
          let own : AreAcceptedBytes H (root_of H archive) query bytes proof = subst (λ (other : List ℕ). AreAcceptedBytes H other query bytes proof) (sym is) accepted
          in inr (λ verdict found. tells H archive query bytes proof own some verdict found)
    ]
