-- What an audit of bytes against an archive finds.
use Rattle.std.specs.Prelude.{◌≡◌, ◌≢◌, ◌⊎◌, ℕ, List, None, Some}
use Rattle.ats_commit.specs.Archive.{Archive}
use Rattle.ats_commit.specs.Own.{AreTexts}
use Rattle.ats_commit.specs.Root.{root_of}
use Rattle.ats_grammar.specs.Front.{IsBad}
use Rattle.ats_grammar.specs.Grammar.{proof_schema}
use Rattle.ats_proof.specs.Value.{Proof}
use Rattle.ats_client.specs.Sections.{difference_of}
use Rattle.ats_client.specs.Strings.{proof_collision}
use Rattle.ats_client.specs.declared.clashing.Clash.{Clash}
use Rattle.ats_all_check.specs.Bytes.{AreAcceptedBytes, AreRefusedBytes}
use Rattle.ats_all_check.specs.Documents.{both, documents_shown}
use Rattle.ats_all_proof.specs.declared.verdict.BothVerdict.{BothVerdict}
use Rattle.ats_all_proof.specs.declared.verdict.BothVerdict.TheVariants.{BadShape, Refused, Right, Collision}

-- the bytes are accepted under the archive's root and have no collision with the archive; these are the documents that
-- the proof shows, and all that have every term of the query
pub record AreFoundRight (H : List ℕ → List ℕ) (archive : Archive) (query : List (List ℕ × ℕ)) (bytes : List ℕ) (documents : List ℕ) : Type 0 where
  pub proof : Proof
  pub accepted : AreAcceptedBytes H (root_of H archive) query bytes proof
  pub none : proof_collision H archive query proof ≡ None
  pub shown : documents ≡ documents_shown proof
  pub right : documents ≡ both archive.texts query

-- the bytes are accepted under the archive's root, and this is their first collision with the archive
pub record IsFoundBothCollision (H : List ℕ → List ℕ) (archive : Archive) (query : List (List ℕ × ℕ)) (bytes : List ℕ) (clash : Clash) : Type 0 where
  pub proof : Proof
  pub accepted : AreAcceptedBytes H (root_of H archive) query bytes proof
  pub found : proof_collision H archive query proof ≡ Some (difference_of clash)

-- the verdict on the bytes against the archive
abbrev pub IsBothVerdict : (List ℕ → List ℕ) → Archive → List (List ℕ × ℕ) → List ℕ → BothVerdict → Type 0
IsBothVerdict H archive query bytes (BadShape fault) = IsBad proof_schema bytes fault
IsBothVerdict H archive query bytes (Refused refusal) = AreRefusedBytes H (root_of H archive) query bytes refusal
IsBothVerdict H archive query bytes (Right documents) = AreFoundRight H archive query bytes documents
IsBothVerdict H archive query bytes (Collision clash) = IsFoundBothCollision H archive query bytes clash

-- the verdict contains two different strings with equal digests
abbrev pub TellsBothCollision : (List ℕ → List ℕ) → BothVerdict → Type 0
TellsBothCollision H (Collision clash) = (clash.ours ≢ clash.theirs) × (H clash.ours ≡ H clash.theirs)
TellsBothCollision H (BadShape fault) = ⊥
TellsBothCollision H (Refused refusal) = ⊥
TellsBothCollision H (Right documents) = ⊥

-- The headline for an audit: for every archive with this root, either the documents that the proof shows are all that have
-- every term of the query, or every verdict on the bytes against that archive contains two different strings with equal
-- digests.
abbrev pub AreBothOrTold : (List ℕ → List ℕ) → List ℕ → List (List ℕ × ℕ) → List ℕ → Proof → Type 0
AreBothOrTold H root query bytes proof = (archive : Archive) → AreTexts archive.texts → root_of H archive ≡ root
    → (documents_shown proof ≡ both archive.texts query)
    ⊎ ((verdict : BothVerdict) → IsBothVerdict H archive query bytes verdict → TellsBothCollision H verdict)
