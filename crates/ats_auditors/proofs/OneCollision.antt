-- What is accepted has one first collision at most, so it stops a command in one way.
use Rattle.std.proofs.Common.{◌≡◌, ◌∙◌, ℕ, List, Option, None, Some, sym, ap}
use Rattle.ats_tree.specs.Differences.{Difference}
use Rattle.ats_plan.specs.Inner.Sound.{IsExact}
use Rattle.ats_console.specs.declared.stops.Stop.TheVariants.{Collision}
use Rattle.ats_auditors.specs.Collided.{StopsByCollision}

module _ {P : Type 0} where
  -- no collision is none
  pub none_found : (collision : Difference P) → None ≡ Some collision → ⊥
  none_found collision is = cc

  -- a collision that was found is one
  pub one_found : (a b : Difference P) → Some a ≡ Some b → a ≡ b
  one_found a b is = cc

  pub collision_exact : (H : List ℕ → List ℕ) (first : Option (Difference P)) (lines_of : Difference P → List ℕ)
      → IsExact (first ≡ None) (StopsByCollision H first lines_of)
  collision_exact H first lines_of = record {
    breaks = λ stop stops none. none_found stops.0 (sym none ∙ stops.1.found);
    one = λ a b is also. is.2 ∙ ap (λ (c : Difference P). Collision (lines_of c)) (one_found is.0 also.0 (sym is.1.found ∙ also.1.found)) ∙ sym also.2;
  }
