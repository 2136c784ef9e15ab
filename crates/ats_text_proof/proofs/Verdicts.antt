-- What the verdicts on a text tell.
use Rattle.std.proofs.Common.{◌≡◌, ◌<◌, ℕ, List, length, Some, None, IsSome, refl, sym, subst, inl, inr}
use Rattle.ats_commit.specs.Archive.{Archive}
use Rattle.ats_commit.specs.Own.{AreTexts}
use Rattle.ats_commit.specs.Root.{root_of}
use Rattle.ats_grammar.proofs.Public.{no_fault}
use Rattle.ats_tree.specs.Differences.{Difference}
use Rattle.ats_tree.proofs.Public.{AreColliding, found-collides, none_some}
use Rattle.ats_text_check.specs.Grammar.{text_schema}
use Rattle.ats_text_check.specs.Accepts.{AcceptsText}
use Rattle.ats_text_check.specs.Strings.{TextPlace, own_text_string, text_strings, text_collision}
use Rattle.ats_text_check.specs.Value.{TextProof, fields_of, IsTextProof}
use Rattle.ats_text_check.specs.Bytes.{IsAcceptedText}
use Rattle.ats_text_check.proofs.Public.{in_range, one_text, own_or_collides, not_refused}
use Rattle.ats_text_proof.specs.Given.{given_text}
use Rattle.ats_text_proof.specs.Verdicts.{IsTextVerdict, TellsTextCollision, IsOwnOrTold}
use Rattle.ats_text_proof.specs.declared.verdict.TextVerdict.{TextVerdict}
use Rattle.ats_text_proof.specs.declared.verdict.TextVerdict.TheVariants.{BadShape, Refused, Right, Collision}
use Rattle.ats_text_proof.proofs.Given.{given-accepted, given-none}

pub collision-collides : (H : List ℕ → List ℕ) (archive : Archive) (doc : ℕ) (proof : TextProof) (c : Difference TextPlace)
    → text_collision H archive doc proof ≡ Some c → AreColliding H c
collision-collides H archive doc proof c is = found-collides H (own_text_string H archive) (text_strings H doc proof) c is

-- ---- the verdict on an accepted text

module _ (H : List ℕ → List ℕ) (archive : Archive) (doc : ℕ) (bytes : List ℕ) (proof : TextProof) (accepted : IsAcceptedText H (root_of H archive) doc bytes proof) where
  no_refusal : (other : TextProof) → IsTextProof bytes other → AcceptsText H (root_of H archive) doc other
  no_refusal other says = subst (AcceptsText H (root_of H archive) doc) (one_text bytes proof other accepted.says says) accepted.accepts

  tells : IsSome (text_collision H archive doc proof) → (verdict : TextVerdict) → IsTextVerdict H archive doc bytes verdict → TellsTextCollision H verdict
  tells some (BadShape fault) found = no_fault text_schema bytes fault (fields_of proof) found accepted.says.spells
  tells some (Refused refusal) found = not_refused H (root_of H archive) doc found.proof refusal (no_refusal found.proof found.says) found.refused
  tells some Right found =
      none_some (text_collision H archive doc found.proof) found.none
      (subst (λ (p : TextProof). IsSome (text_collision H archive doc p)) (one_text bytes proof found.proof accepted.says found.accepted.says) some)
  tells some (Collision clash) found = collision-collides H archive doc found.proof _ found.found

  -- if there is no collision, the text is found right
  only_right : text_collision H archive doc proof ≡ None → (verdict : TextVerdict) → IsTextVerdict H archive doc bytes verdict → verdict ≡ Right
  only_right none (BadShape fault) found = absurd (no_fault text_schema bytes fault (fields_of proof) found accepted.says.spells)
  only_right none (Refused refusal) found = absurd (not_refused H (root_of H archive) doc found.proof refusal (no_refusal found.proof found.says) found.refused)
  only_right none Right found = refl
  only_right none (Collision clash) found =
      let there : text_collision H archive doc found.proof ≡ None =
      subst (λ (p : TextProof). text_collision H archive doc p ≡ None) (one_text bytes proof found.proof accepted.says found.accepted.says) none in
      let is = found.found in
      absurd (cc)

pub told : (H : List ℕ → List ℕ) → ((m : List ℕ) → length (H m) ≡ 32) → (root : List ℕ) (doc : ℕ) (bytes : List ℕ) (proof : TextProof)
    → IsTextProof bytes proof → AcceptsText H root doc proof → IsOwnOrTold H root doc bytes proof
told H sized root doc bytes proof says accepts archive are is =
    elim (own_or_collides H sized root doc proof (in_range bytes proof says) accepts archive are is) [
      | inl own ↦ inl own
      | inr some ↦
          let here : AcceptsText H (root_of H archive) doc proof = subst (λ (r : List ℕ). AcceptsText H r doc proof) (sym is) accepts in
          inr (tells H archive doc bytes proof (record { says = says; accepts = here }) some)
    ]

-- the only verdict on what an archive gives
pub given-right : (H : List ℕ → List ℕ) → ((m : List ℕ) → length (H m) ≡ 32) → (archive : Archive) (doc : ℕ) (bytes : List ℕ) (verdict : TextVerdict)
    → AreTexts archive.texts → doc < length archive.texts → IsTextProof bytes (given_text H archive doc) → IsTextVerdict H archive doc bytes verdict → verdict ≡ Right
given-right H sized archive doc bytes verdict are less says found =
    only_right H archive doc bytes (given_text H archive doc) (record { says = says; accepts = given-accepted H sized archive doc are less })
    (given-none H sized archive doc are less) verdict found
