-- What an audit of a growth against two archives finds.
use Rattle.std.specs.Prelude.{◌≡◌, ◌≢◌, ◌⊎◌, ℕ, List, None, Some}
use Rattle.ats_commit.specs.Archive.{Archive}
use Rattle.ats_commit.specs.Own.{AreTexts}
use Rattle.ats_commit.specs.Root.{root_of}
use Rattle.ats_grammar.specs.Front.{IsBad}
use Rattle.ats_tree.specs.Differences.{Difference}
use Rattle.ats_growth_check.specs.Bytes.{IsAcceptedGrowth, IsRefusedGrowth}
use Rattle.ats_growth_check.specs.Grammar.{growth_schema}
use Rattle.ats_growth_check.specs.Headline.{HasGrown}
use Rattle.ats_growth_check.specs.Strings.{Beside, growth_collision}
use Rattle.ats_growth_check.specs.Value.{Growth}
use Rattle.ats_growth_check.specs.declared.checking.Grown.{Grown}
use Rattle.ats_growth_proof.specs.declared.verdict.GrowthVerdict.{GrowthVerdict}
use Rattle.ats_growth_proof.specs.declared.verdict.GrowthVerdict.TheVariants.{BadShape, Refused, Right, Collision}

-- two strings of a pair in this part
abbrev pub collision_of : ℕ → List ℕ → List ℕ → Difference Beside
collision_of part first second =
    record { place = record { part = part; second = Some second }; ours = second; theirs = first }

-- the bytes are accepted under the roots of both archives and have no collision with them, and the new archive has grown
-- from the old one, with these numbers of documents
pub record IsFoundGrown (H : List ℕ → List ℕ) (older newer : Archive) (bytes : List ℕ) (grown : Grown) : Type 0 where
  pub growth : Growth
  pub accepted : IsAcceptedGrowth H (root_of H older) (root_of H newer) bytes growth
  pub none : growth_collision H older newer growth ≡ None
  pub grows : HasGrown older newer grown.old grown.new

-- the bytes are accepted under the roots of both archives, and this is their first collision with them
pub record IsFoundGrowthCollision (H : List ℕ → List ℕ) (older newer : Archive) (bytes : List ℕ) (part : ℕ)
    (first second : List ℕ) : Type 0 where
  pub growth : Growth
  pub accepted : IsAcceptedGrowth H (root_of H older) (root_of H newer) bytes growth
  pub found : growth_collision H older newer growth ≡ Some (collision_of part first second)

-- the verdict on the bytes against the two archives
abbrev pub IsGrowthVerdict : (List ℕ → List ℕ) → Archive → Archive → List ℕ → GrowthVerdict → Type 0
IsGrowthVerdict H older newer bytes (BadShape fault) = IsBad growth_schema bytes fault
IsGrowthVerdict H older newer bytes (Refused refusal) = IsRefusedGrowth H (root_of H older) (root_of H newer) bytes refusal
IsGrowthVerdict H older newer bytes (Right grown) = IsFoundGrown H older newer bytes grown
IsGrowthVerdict H older newer bytes (Collision part first second) = IsFoundGrowthCollision H older newer bytes part first second

-- the verdict contains two different strings with equal digests
abbrev pub TellsGrowthCollision : (List ℕ → List ℕ) → GrowthVerdict → Type 0
TellsGrowthCollision H (Collision part first second) = (first ≢ second) × (H first ≡ H second)
TellsGrowthCollision H _ = ⊥

-- a collision, if there is one, has two different strings with equal digests
abbrev pub IsCollisionSound : (List ℕ → List ℕ) → GrowthVerdict → Type 0
IsCollisionSound H (Collision part first second) = TellsGrowthCollision H (Collision part first second)
IsCollisionSound H _ = Unit {0}

-- The headline for an audit: for all archives with the two roots, either nothing was withdrawn, or every verdict on the
-- bytes against these archives contains two different strings with equal digests.
abbrev pub IsGrownOrTold : (List ℕ → List ℕ) → List ℕ → List ℕ → List ℕ → Growth → Type 0
IsGrownOrTold H old new bytes g = (older newer : Archive) → AreTexts older.texts → AreTexts newer.texts
    → root_of H older ≡ old → root_of H newer ≡ new
    → HasGrown older newer g.old.documents g.new.documents
    ⊎ ((verdict : GrowthVerdict) → IsGrowthVerdict H older newer bytes verdict → TellsGrowthCollision H verdict)
