-- What the verdicts on a growth tell.
use Rattle.std.proofs.Common.{◌≡◌, ◌≢◌, ℕ, List, length, Some, None, IsSome, sym, ap, subst, inl, inr}
use Rattle.ats_commit.specs.Archive.{Archive}
use Rattle.ats_commit.specs.Own.{AreTexts}
use Rattle.ats_commit.specs.Root.{root_of}
use Rattle.ats_grammar.proofs.Public.{no_fault}
use Rattle.ats_tree.specs.Differences.{Difference}
use Rattle.ats_tree.proofs.Public.{AreColliding, found-collides, none_some}
use Rattle.ats_growth_check.specs.Grammar.{growth_schema}
use Rattle.ats_growth_check.specs.Headline.{IsPrefix}
use Rattle.ats_growth_check.specs.Rules.{AcceptsGrowth}
use Rattle.ats_growth_check.specs.Strings.{Beside, pairs, second_of, growth_collision}
use Rattle.ats_growth_check.specs.Value.{Growth, fields_of, IsGrowth}
use Rattle.ats_growth_check.specs.Bytes.{IsAcceptedGrowth}
use Rattle.ats_growth_check.specs.declared.checking.Grown.{Grown}
use Rattle.ats_growth_check.proofs.Public.{accepted_not_refused, growth_range, one_growth, grown_or_collides}
use Rattle.ats_growth_proof.specs.Honest.{honest}
use Rattle.ats_growth_proof.specs.Verdicts.{collision_of, IsGrowthVerdict, TellsGrowthCollision, IsGrownOrTold}
use Rattle.ats_growth_proof.specs.declared.verdict.GrowthVerdict.{GrowthVerdict}
use Rattle.ats_growth_proof.specs.declared.verdict.GrowthVerdict.TheVariants.{BadShape, Refused, Right, Collision}
use Rattle.ats_growth_proof.proofs.Completeness.{honest_accepted}
use Rattle.ats_growth_proof.proofs.HonestStrings.{honest-none}

pub collision-collides : (H : List ℕ → List ℕ) (older newer : Archive) (g : Growth) (c : Difference Beside) → growth_collision H older newer g ≡ Some c → AreColliding H c
collision-collides H older newer g c is = found-collides H second_of (pairs H older newer g) c is

not_same : (a b : List ℕ) → a ≢ b → b ≢ a
not_same a b other same = other (sym same)

-- the two strings of the first collision, in the order of the pair
pub told-strings : (H : List ℕ → List ℕ) (older newer : Archive) (g : Growth) (part : ℕ) (first second : List ℕ) → growth_collision H older newer g ≡ Some (collision_of part first second)
    → (first ≢ second) × (H first ≡ H second)
told-strings H older newer g part first second is =
    let two = collision-collides H older newer g (collision_of part first second) is
    in (not_same second first two.0, sym two.1)

-- ---- the verdict on an accepted growth

same_numbers : (grown : Grown) (m n : ℕ) → m ≡ grown.old → n ≡ grown.new → grown ≡ record { old = m; new = n }
same_numbers grown m n old new = λ i. record { old = (sym old) i; new = (sym new) i }

module _ (H : List ℕ → List ℕ) (older newer : Archive) (bytes : List ℕ) (g : Growth) (accepted : IsAcceptedGrowth H (root_of H older) (root_of H newer) bytes g) where
  no_refusal : (other : Growth) → IsGrowth bytes other → AcceptsGrowth H (root_of H older) (root_of H newer) other
  no_refusal other says = subst (AcceptsGrowth H (root_of H older) (root_of H newer)) (one_growth bytes g other accepted.says says) accepted.accepts

  tells : IsSome (growth_collision H older newer g) → (verdict : GrowthVerdict) → IsGrowthVerdict H older newer bytes verdict → TellsGrowthCollision H verdict
  tells some (BadShape fault) found = no_fault growth_schema bytes fault (fields_of g) found accepted.says
  tells some (Refused refusal) found =
      accepted_not_refused H (root_of H older) (root_of H newer) found.growth refusal (no_refusal found.growth found.says) found.refused
  tells some (Right grown) found =
      none_some (growth_collision H older newer found.growth) found.none
      (subst (λ (other : Growth). IsSome (growth_collision H older newer other)) (one_growth bytes g found.growth accepted.says found.accepted.says) some)
  tells some (Collision part first second) found = told-strings H older newer found.growth part first second found.found

  -- if there is no collision, the growth is found right
  only_right : growth_collision H older newer g ≡ None → (verdict : GrowthVerdict) → IsGrowthVerdict H older newer bytes verdict
      → verdict ≡ Right (record { old = length older.texts; new = length newer.texts })
  only_right none (BadShape fault) found = absurd (no_fault growth_schema bytes fault (fields_of g) found accepted.says)
  only_right none (Refused refusal) found =
      absurd (accepted_not_refused H (root_of H older) (root_of H newer) found.growth refusal (no_refusal found.growth found.says) found.refused)
  only_right none (Right grown) found = ap Right (same_numbers grown (length older.texts) (length newer.texts) found.grows.old found.grows.new)
  only_right none (Collision part first second) found =
      let there : growth_collision H older newer found.growth ≡ None =
      subst (λ (other : Growth). growth_collision H older newer other ≡ None) (one_growth bytes g found.growth accepted.says found.accepted.says) none
      in let is = found.found
      in absurd (cc)

pub told : (H : List ℕ → List ℕ) → ((m : List ℕ) → length (H m) ≡ 32) → (old new bytes : List ℕ) (g : Growth)
    → IsGrowth bytes g → AcceptsGrowth H old new g → IsGrownOrTold H old new bytes g
told H sized old new bytes g says accepts older newer old_are new_are is_old is_new =
    elim (grown_or_collides H sized old new g (growth_range bytes g says) accepts older newer old_are new_are is_old is_new) [
      | inl grown ↦ inl grown
      | inr some ↦
          let under : AcceptsGrowth H (root_of H older) (root_of H newer) g =
          subst (λ (root : List ℕ). AcceptsGrowth H root (root_of H newer) g) (sym is_old) (subst (λ (root : List ℕ). AcceptsGrowth H old root g) (sym is_new) accepts)
          in inr (tells H older newer bytes g (record { says = says; accepts = under }) some)
    ]

-- the only verdict on an honest growth
pub honest-right : (H : List ℕ → List ℕ) (older newer : Archive) (bytes : List ℕ) (verdict : GrowthVerdict) → AreTexts older.texts → IsPrefix older.texts newer.texts
    → IsGrowth bytes (honest H older newer) → IsGrowthVerdict H older newer bytes verdict → verdict ≡ Right (record { old = length older.texts; new = length newer.texts })
honest-right H older newer bytes verdict are is says found =
    only_right H older newer bytes (honest H older newer) (record { says = says; accepts = honest_accepted H older newer is are.within.some })
    (honest-none H older newer is are.within.some) verdict found
