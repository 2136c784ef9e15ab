-- A growth that is accepted is not refused, and a growth is refused by one rule.
use Rattle.std.proofs.Common.{◌≡◌, ℕ, List, refl}
use Rattle.std.specs.Prelude.{Ok, Err, IsOk, IfErr}
use Rattle.std.specs.declared.result.Result.{Result}
use Rattle.ats_base.proofs.Public.{AreExact, one_way, not_all_hold, one_first}
use Rattle.ats_growth_check.specs.Rules.{rules, AcceptsGrowth, IsFirstGrowthRefusal}
use Rattle.ats_growth_check.specs.Value.{Growth}
use Rattle.ats_growth_check.specs.declared.checking.Grown.{Grown}
use Rattle.ats_refusal.specs.declared.growth.GrowthRefusal.{GrowthRefusal}

module _ (H : List ℕ → List ℕ) (old new : List ℕ) (g : Growth) where
  exact : AreExact (rules H old new g)
  exact = (one_way _ _, (one_way _ _, (one_way _ _, (one_way _ _, (one_way _ _, (one_way _ _, tt))))))

  -- a growth that is accepted is not refused
  pub accepted_not_refused : (refusal : GrowthRefusal) → AcceptsGrowth H old new g → IsFirstGrowthRefusal H old new g refusal → ⊥
  accepted_not_refused refusal accepts is = not_all_hold (rules H old new g) refusal exact is.first accepts.holds

  -- a growth is refused by one rule
  pub one_refusal : (a b : GrowthRefusal) → IsFirstGrowthRefusal H old new g a → IsFirstGrowthRefusal H old new g b → a ≡ b
  one_refusal a b is also = one_first (rules H old new g) a b exact is.first also.first

  pub accepted-ok : (result : Result Grown GrowthRefusal) → IfErr result (IsFirstGrowthRefusal H old new g) → AcceptsGrowth H old new g → IsOk result
  accepted-ok (Ok grown) refused accepts = refl
  accepted-ok (Err refusal) refused accepts = absurd (accepted_not_refused refusal accepts refused)
