-- What an audit reports of an accepted proof.
use Rattle.std.proofs.Common.{◌≡◌, ℕ, List, length, None, IsSome, refl, sym, subst, inl, inr}
use Rattle.ats_terms.specs.Query.{IsQuery}
use Rattle.ats_commit.specs.Archive.{Archive}
use Rattle.ats_commit.specs.Own.{AreTexts}
use Rattle.ats_commit.specs.Root.{root_of}
use Rattle.ats_proof.specs.Value.{Proof}
use Rattle.ats_proof.proofs.Public.{in_range, one_value}
use Rattle.ats_client.specs.Bytes.{IsAcceptedBytes}
use Rattle.ats_client.specs.Headline.{AreRight, IsTopOrCollides}
use Rattle.ats_client.specs.Rows.{rows_of}
use Rattle.ats_client.specs.Strings.{proof_collision}
use Rattle.ats_refusal.specs.declared.proof.Rejection.TheVariants.{Shape, Check}
use Rattle.ats_client.proofs.Public.{top_or_collides, accepted_not_refused, collision-collides, none_some}
use Rattle.ats_audit.specs.Verdicts.{IsVerdict, TellsCollision, IsTopOrTold}
use Rattle.ats_audit.specs.declared.auditing.Verdict.{Verdict}
use Rattle.ats_audit.specs.declared.auditing.Verdict.TheVariants.{BadShape, Refused, Right, Collision}

-- ---- the verdict on an accepted proof

module _ (H : List ℕ → List ℕ) (archive : Archive) (query : List (List ℕ × ℕ)) (r : ℕ) (bytes : List ℕ) (proof : Proof)
    (accepted : IsAcceptedBytes H (root_of H archive) query r bytes proof) (some : IsSome (proof_collision H archive query proof)) where
  tells : (verdict : Verdict) → IsVerdict H archive query r bytes verdict → TellsCollision H verdict
  tells (BadShape fault) found = accepted_not_refused H (root_of H archive) query r bytes proof (Shape fault) accepted found
  tells (Refused refusal) found = accepted_not_refused H (root_of H archive) query r bytes proof (Check refusal) accepted found
  tells (Right rows) found =
      let same : proof ≡ found.proof = one_value bytes proof found.proof accepted.says found.accepted.says
      in none_some (proof_collision H archive query found.proof) found.none (subst (λ (p : Proof). IsSome (proof_collision H archive query p)) same some)
  tells (Collision place ours theirs) found = collision-collides H archive query found.proof _ found.found

pub told : (H : List ℕ → List ℕ) → ((m : List ℕ) → length (H m) ≡ 32) → (root : List ℕ) (query : List (List ℕ × ℕ)) (r : ℕ) (bytes : List ℕ) (proof : Proof) → IsQuery query
    → IsAcceptedBytes H root query r bytes proof → IsTopOrTold H root query r bytes proof
told H sized root query r bytes proof asked accepted archive are is =
    elim (top_or_collides H sized root query r proof asked (in_range bytes proof accepted.says) accepted.says.prefix_each accepted.says.documents accepted.accepts archive are is) [
      | inl right ↦ inl right
      | inr some ↦
          let own : IsAcceptedBytes H (root_of H archive) query r bytes proof = subst (λ (other : List ℕ). IsAcceptedBytes H other query r bytes proof) (sym is) accepted
          in inr (λ verdict found. tells H archive query r bytes proof own some verdict found)
    ]

-- ---- what `audit` finds

-- an accepted proof with no collision has right rows
pub right_rows : (H : List ℕ → List ℕ) (archive : Archive) (query : List (List ℕ × ℕ)) (r : ℕ) (proof : Proof) → AreTexts archive.texts
    → IsTopOrCollides H (root_of H archive) query r proof → proof_collision H archive query proof ≡ None → AreRight archive.texts query r (rows_of query proof)
right_rows H archive query r proof are headline none = elim (headline archive are refl) [
  | inl right ↦ right
  | inr some ↦ absurd (none_some (proof_collision H archive query proof) none some)
]
