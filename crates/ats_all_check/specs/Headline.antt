-- What an accepted proof says of each archive with the root.
use Rattle.std.specs.Prelude.{◌≡◌, ◌⊎◌, ℕ, List, IsSome}
use Rattle.ats_commit.specs.Archive.{Archive}
use Rattle.ats_commit.specs.Own.{AreTexts}
use Rattle.ats_commit.specs.Root.{root_of}
use Rattle.ats_proof.specs.Value.{Proof}
use Rattle.ats_client.specs.Strings.{proof_collision}
use Rattle.ats_all_check.specs.Documents.{both, documents_shown}

-- For every archive with this root, either the documents that the proof shows are all that have every term of the query,
-- or the strings of the proof and those of the archive contain two different ones with equal digests.
abbrev pub AreBothOrCollide : (List ℕ → List ℕ) → List ℕ → List (List ℕ × ℕ) → Proof → Type 0
AreBothOrCollide H root query proof = (archive : Archive) → AreTexts archive.texts → root_of H archive ≡ root
    → (documents_shown proof ≡ both archive.texts query) ⊎ IsSome (proof_collision H archive query proof)
