-- What an audit of a text against an archive finds.
use Rattle.std.specs.Prelude.{◌≡◌, ◌≢◌, ◌⊎◌, ◌<◌, ◌^◌, ℕ, List, None, Some}
use Rattle.ats_commit.specs.Archive.{Archive}
use Rattle.ats_commit.specs.Own.{AreTexts}
use Rattle.ats_commit.specs.Root.{root_of}
use Rattle.ats_grammar.specs.Front.{IsBad}
use Rattle.ats_tree.specs.Differences.{Difference}
use Rattle.ats_text_check.specs.Bytes.{IsAcceptedText, IsRefusedText}
use Rattle.ats_text_check.specs.Grammar.{text_schema}
use Rattle.ats_text_check.specs.Strings.{TextPlace, text_collision, IsOwnText}
use Rattle.ats_text_check.specs.Value.{TextProof}
use Rattle.ats_text_proof.specs.declared.verdict.TextClash.{TextClash}
use Rattle.ats_text_proof.specs.declared.verdict.TextVerdict.{TextVerdict}
use Rattle.ats_text_proof.specs.declared.verdict.TextVerdict.TheVariants.{BadShape, Refused, Right, Collision}

-- the two strings of a clash, with their place
abbrev pub difference_of : TextClash → Difference TextPlace
difference_of clash = record {
  place = record { header = clash.header; depth = clash.depth; turns = clash.turns };
  ours = clash.ours;
  theirs = clash.theirs;
}

-- the bytes are accepted under the archive's root, have no collision with the archive, and give the archive's own text
pub record IsFoundOwn (H : List ℕ → List ℕ) (archive : Archive) (doc : ℕ) (bytes : List ℕ) : Type 0 where
  pub proof : TextProof
  pub accepted : IsAcceptedText H (root_of H archive) doc bytes proof
  pub none : text_collision H archive doc proof ≡ None
  pub own : IsOwnText archive doc proof

-- the bytes are accepted under the archive's root, and this is their first collision with the archive
pub record IsFoundClash (H : List ℕ → List ℕ) (archive : Archive) (doc : ℕ) (bytes : List ℕ) (clash : TextClash) : Type 0 where
  pub proof : TextProof
  pub accepted : IsAcceptedText H (root_of H archive) doc bytes proof
  pub found : text_collision H archive doc proof ≡ Some (difference_of clash)

-- the verdict on the bytes against the archive
abbrev pub IsTextVerdict : (List ℕ → List ℕ) → Archive → ℕ → List ℕ → TextVerdict → Type 0
IsTextVerdict H archive doc bytes (BadShape fault) = IsBad text_schema bytes fault
IsTextVerdict H archive doc bytes (Refused refusal) = IsRefusedText H (root_of H archive) doc bytes refusal
IsTextVerdict H archive doc bytes Right = IsFoundOwn H archive doc bytes
IsTextVerdict H archive doc bytes (Collision clash) = IsFoundClash H archive doc bytes clash

-- the turns have no digit beyond the depth
abbrev pub IsPlaced : TextClash → Type 0
IsPlaced clash = clash.turns < 2 ^ clash.depth

-- the verdict contains two different strings with equal digests
abbrev pub TellsTextCollision : (List ℕ → List ℕ) → TextVerdict → Type 0
TellsTextCollision H (Collision clash) = (clash.ours ≢ clash.theirs) × (H clash.ours ≡ H clash.theirs)
TellsTextCollision H _ = ⊥

-- a collision, if there is one, has two different strings with equal digests, and its turns are within its depth
abbrev pub IsCollisionSound : (List ℕ → List ℕ) → TextVerdict → Type 0
IsCollisionSound H (Collision clash) = TellsTextCollision H (Collision clash) × IsPlaced clash
IsCollisionSound H _ = Unit {0}

-- The headline for an audit of a text: for every archive with this root, either the text is the archive's own, or the
-- audit of the bytes against that archive returns two different strings with equal digests.
abbrev pub IsOwnOrTold : (List ℕ → List ℕ) → List ℕ → ℕ → List ℕ → TextProof → Type 0
IsOwnOrTold H root doc bytes proof = (archive : Archive) → AreTexts archive.texts → root_of H archive ≡ root
    → IsOwnText archive doc proof ⊎ ((verdict : TextVerdict) → IsTextVerdict H archive doc bytes verdict → TellsTextCollision H verdict)
