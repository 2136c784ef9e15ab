-- A plan that goes one way at most: what stops it at a step excludes that the step holds, and is one.
use Rattle.std.specs.Prelude.{◌≡◌, ℕ, List}
use Rattle.ats_plan.specs.Plan.{Plan, Finishes, Stores, Fails, Tries, Gets, Makes, Reads}

-- what stops here excludes that this holds, and stops in one way
pub record IsExact {F : Type 0} (holds : Type 0) (fault : F → Type 0) : Type 0 where
  pub breaks : (stop : F) → fault stop → holds → ⊥
  pub one : (a b : F) → fault a → fault b → a ≡ b

-- one value at most satisfies this, and none if it stops here, which is in one way
pub record IsOne {F A : Type 0} (is : A → Type 0) (fault : F → Type 0) : Type 0 where
  pub single : (a b : A) → is a → is b → a ≡ b
  pub breaks : (a : A) (stop : F) → fault stop → is a → ⊥
  pub one : (a b : F) → fault a → fault b → a ≡ b

abbrev pub IsSound : {F : Type 0} → Plan F → Type 0
IsSound (Finishes says) = Unit {0}
IsSound (Stores name bytes says) = Unit {0}
IsSound (Fails fault) = Unit {0}
IsSound (Tries holds fault rest) = IsExact holds fault × IsSound rest
IsSound (Gets A is fault rest) = IsOne is fault × ((a : A) → IsSound (rest a))
IsSound (Makes A is rest) = ((a b : A) → is a → is b → a ≡ b) × ((a : A) → IsSound (rest a))
IsSound (Reads name limit long rest) = IsSound long × ((bytes : List ℕ) → IsSound (rest bytes))
