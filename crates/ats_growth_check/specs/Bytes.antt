-- When bytes are accepted as a growth under two roots, and by which rule they are refused otherwise.
use Rattle.std.specs.Prelude.{ℕ, List}
use Rattle.ats_growth_check.specs.Rules.{AcceptsGrowth, IsFirstGrowthRefusal}
use Rattle.ats_growth_check.specs.Value.{Growth, IsGrowth}
use Rattle.ats_refusal.specs.declared.growth.GrowthRefusal.{GrowthRefusal}

-- the bytes spell a growth that is accepted under these roots
pub record IsAcceptedGrowth (H : List ℕ → List ℕ) (old new : List ℕ) (bytes : List ℕ) (growth : Growth) : Type 0 where
  pub says : IsGrowth bytes growth
  pub accepts : AcceptsGrowth H old new growth

-- the bytes spell a growth that breaks this rule first under these roots
pub record IsRefusedGrowth (H : List ℕ → List ℕ) (old new : List ℕ) (bytes : List ℕ) (refusal : GrowthRefusal) : Type 0 where
  pub growth : Growth
  pub says : IsGrowth bytes growth
  pub refused : IsFirstGrowthRefusal H old new growth refusal
