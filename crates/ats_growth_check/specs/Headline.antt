-- What an accepted growth says of all archives with the two roots.
use Rattle.std.specs.Prelude.{◌≡◌, ◌⊎◌, ℕ, List, length, take, IsSome}
use Rattle.ats_commit.specs.Archive.{Archive}
use Rattle.ats_commit.specs.Own.{AreTexts}
use Rattle.ats_commit.specs.Root.{root_of}
use Rattle.ats_growth_check.specs.Strings.{growth_collision}
use Rattle.ats_growth_check.specs.Value.{Growth}

-- nothing was withdrawn: the old texts are the first of the new ones
abbrev pub IsPrefix : List (List ℕ) → List (List ℕ) → Type 0
IsPrefix old new = take (length old) new ≡ old

-- the archives have m and n texts, and the old texts are the first of the new ones
pub record HasGrown (older newer : Archive) (m n : ℕ) : Type 0 where
  pub old : length older.texts ≡ m
  pub new : length newer.texts ≡ n
  pub prefix : IsPrefix older.texts newer.texts

-- For all archives with the two roots, either nothing was withdrawn, or the strings that the growth and the two archives
-- hash contain two different ones with equal digests.
abbrev pub IsGrownOrCollides : (List ℕ → List ℕ) → List ℕ → List ℕ → Growth → Type 0
IsGrownOrCollides H old new g = (older newer : Archive) → AreTexts older.texts → AreTexts newer.texts
    → root_of H older ≡ old → root_of H newer ≡ new
    → HasGrown older newer g.old.documents g.new.documents ⊎ IsSome (growth_collision H older newer g)
