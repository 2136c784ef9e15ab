-- What is found to have grown has grown by the numbers that the growth says.
use Rattle.std.proofs.Common.{◌≡◌, ℕ, List, length, refl, inl, inr}
use Rattle.ats_commit.specs.Archive.{Archive}
use Rattle.ats_commit.specs.Root.{root_of}
use Rattle.ats_growth_check.specs.Headline.{HasGrown}
use Rattle.ats_growth_check.specs.declared.checking.Grown.{Grown}
use Rattle.ats_growth_proof.specs.Verdicts.{IsFoundGrown}
use Rattle.ats_growth_proof.specs.declared.verdict.GrowthVerdict.TheVariants.{Right}
use Rattle.ats_growth_proof.proofs.Public.{told}
use Rattle.ats_plan.specs.Files.{Files}
use Rattle.ats_console.specs.Read.{HasIndex}
use Rattle.ats_console.proofs.Public.{texts_of}

module _ (H : List ℕ → List ℕ) (older newer : Archive) (bytes : List ℕ) where
  pub found_grows : ((m : List ℕ) → length (H m) ≡ 32) → {files : Files} {old new : List ℕ} (has : HasIndex H files old older) (also : HasIndex H files new newer)
      (grown : Grown) (found : IsFoundGrown H older newer bytes grown) → HasGrown older newer found.growth.old.documents found.growth.new.documents
  found_grows sized has also grown found =
      elim (told H sized (root_of H older) (root_of H newer) bytes found.growth found.accepted.says found.accepted.accepts older newer (texts_of has) (texts_of also) refl refl) [
        | inl grows ↦ grows
        | inr tells ↦ absurd (tells (Right grown) found)
      ]
