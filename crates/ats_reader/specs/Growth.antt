-- What `ats_growth` says, and why it says nothing.
use Rattle.std.specs.Prelude.{◌≡◌, ℕ, List}
use Rattle.sha2.specs.Sha256.{sha256}
use Rattle.ats_grammar.specs.Front.{IsBad}
use Rattle.ats_growth_check.specs.Bytes.{IsAcceptedGrowth, IsRefusedGrowth}
use Rattle.ats_growth_check.specs.Grammar.{growth_schema}
use Rattle.ats_growth_check.specs.Headline.{IsGrownOrCollides}
use Rattle.ats_growth_check.specs.Value.{Growth}
use Rattle.ats_growth_check.specs.declared.checking.Grown.{Grown}
use Rattle.ats_reader.specs.Verdicts.{accepted}
use Rattle.ats_reader.specs.declared.fault.Fault.{Fault}
use Rattle.ats_reader.specs.declared.fault.Fault.TheVariants.{BadShape, GrowthRefused}
use Rattle.ats_reader.specs.declared.shown.Verdict.{Verdict}

-- The bytes are accepted as the growth from the old root to the new one, with these numbers of documents. So all archives
-- with the two roots have these numbers of texts, and the old ones are the first of the new ones, or strings collide.
pub record IsGrown (old new bytes : List ℕ) (grown : Grown) : Type 0 where
  pub growth : Growth
  pub proved : IsAcceptedGrowth sha256 old new bytes growth
  pub headline : IsGrownOrCollides sha256 old new growth
  pub before : grown.old ≡ growth.old.documents
  pub now : grown.new ≡ growth.new.documents

-- the verdict has such numbers
pub record IsGrowthAnswer (old new bytes : List ℕ) (verdict : Verdict) : Type 0 where
  pub grown : Grown
  pub proved : IsGrown old new bytes grown
  pub told : verdict ≡ accepted 0 grown.old grown.new

-- why no numbers are shown
abbrev pub IsGrowthFault : List ℕ → List ℕ → List ℕ → Fault → Type 0
IsGrowthFault old new bytes (BadShape fault) = IsBad growth_schema bytes fault
IsGrowthFault old new bytes (GrowthRefused refusal) = IsRefusedGrowth sha256 old new bytes refusal
IsGrowthFault old new bytes _ = ⊥
