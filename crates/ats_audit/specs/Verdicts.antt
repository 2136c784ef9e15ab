-- What an audit of bytes against an archive finds.
use Rattle.std.specs.Prelude.{◌≡◌, ◌≢◌, ◌⊎◌, ℕ, List, None, Some}
use Rattle.ats_impact.specs.declared.rank.Row.{Row}
use Rattle.ats_tree.specs.Differences.{Difference}
use Rattle.ats_tree.specs.declared.places.Place.{Place}
use Rattle.ats_commit.specs.Archive.{Archive}
use Rattle.ats_commit.specs.Own.{AreTexts}
use Rattle.ats_commit.specs.Root.{root_of}
use Rattle.ats_proof.specs.Value.{Proof}
use Rattle.ats_client.specs.Bytes.{IsAcceptedBytes, IsRejectedBytes}
use Rattle.ats_client.specs.Headline.{AreRight}
use Rattle.ats_client.specs.Rows.{rows_of}
use Rattle.ats_client.specs.Strings.{proof_collision}
use Rattle.ats_refusal.specs.declared.proof.Rejection.TheVariants.{Shape, Check}
use Rattle.ats_audit.specs.declared.auditing.Verdict.{Verdict}
use Rattle.ats_audit.specs.declared.auditing.Verdict.TheVariants.{BadShape, Refused, Right, Collision}

-- the bytes spell a proof that is accepted under the archive's root and has no collision with the archive; the rows are
-- its answer's, and they are right for the archive's texts
pub record IsFoundRight (H : List ℕ → List ℕ) (archive : Archive) (query : List (List ℕ × ℕ)) (r : ℕ) (bytes : List ℕ) (rows : List Row) : Type 0 where
  pub proof : Proof
  pub accepted : IsAcceptedBytes H (root_of H archive) query r bytes proof
  pub none : proof_collision H archive query proof ≡ None
  pub answer : rows ≡ rows_of query proof
  pub right : AreRight archive.texts query r rows

-- the bytes spell a proof that is accepted under the archive's root, and this is its first collision with the archive
pub record IsFoundCollision (H : List ℕ → List ℕ) (archive : Archive) (query : List (List ℕ × ℕ)) (r : ℕ) (bytes : List ℕ) (collision : Difference Place) : Type 0 where
  pub proof : Proof
  pub accepted : IsAcceptedBytes H (root_of H archive) query r bytes proof
  pub found : proof_collision H archive query proof ≡ Some collision

-- the verdict on the bytes against the archive
abbrev pub IsVerdict : (List ℕ → List ℕ) → Archive → List (List ℕ × ℕ) → ℕ → List ℕ → Verdict → Type 0
IsVerdict H archive query r bytes (BadShape fault) = IsRejectedBytes H (root_of H archive) query r bytes (Shape fault)
IsVerdict H archive query r bytes (Refused refusal) = IsRejectedBytes H (root_of H archive) query r bytes (Check refusal)
IsVerdict H archive query r bytes (Right rows) = IsFoundRight H archive query r bytes rows
IsVerdict H archive query r bytes (Collision place ours theirs) =
    IsFoundCollision H archive query r bytes (record { place = place; ours = ours; theirs = theirs })

-- the verdict contains two different strings with equal digests
abbrev pub TellsCollision : (List ℕ → List ℕ) → Verdict → Type 0
TellsCollision H (Collision place ours theirs) = (ours ≢ theirs) × (H ours ≡ H theirs)
TellsCollision H (BadShape fault) = ⊥
TellsCollision H (Refused refusal) = ⊥
TellsCollision H (Right rows) = ⊥

-- The headline for an audit: for every archive with this root, either the rows are right for its texts, or the audit of
-- the bytes against that archive returns two different strings with equal digests.
abbrev pub IsTopOrTold : (List ℕ → List ℕ) → List ℕ → List (List ℕ × ℕ) → ℕ → List ℕ → Proof → Type 0
IsTopOrTold H root query r bytes proof = (archive : Archive) → AreTexts archive.texts → root_of H archive ≡ root
    → AreRight archive.texts query r (rows_of query proof) ⊎ ((verdict : Verdict) → IsVerdict H archive query r bytes verdict → TellsCollision H verdict)
