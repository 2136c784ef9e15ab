-- Groups of rules in two runs, one after the other.
use Rattle.std.proofs.Common.{◌⊎◌, ℕ, zero, suc, List, [], ◌∷◌, ◌++◌, inl, inr}
use Rattle.ats_base.specs.Rules.{Group, AllHold, IsFirstFault}
use Rattle.ats_base.proofs.Public.{AreExact}

-- if each group of both runs fails in one way, and is then not holds, so does each of all
pub exact_both : {F : Type 0} (a b : List (Group F)) → AreExact a → AreExact b → AreExact (a ++ b)
exact_both [] b first second = second
exact_both (group ∷ a) b first second = (first.0, exact_both a b first.1 second)

-- if all groups are holds, those of the first run are
pub first_hold : {F : Type 0} (a b : List (Group F)) → AllHold (a ++ b) → AllHold a
first_hold [] b holds = tt
first_hold (group ∷ a) b holds = (holds.0, first_hold a b holds.1)

-- all groups hold if those of both runs do
pub both_hold : {F : Type 0} (a b : List (Group F)) → AllHold a → AllHold b → AllHold (a ++ b)
both_hold [] b first second = second
both_hold (group ∷ a) b first second = (first.0, both_hold a b first.1 second)

-- the first failure of the first run is that of both
pub first_in_front : {F : Type 0} (a b : List (Group F)) (fault : F) → IsFirstFault a fault → IsFirstFault (a ++ b) fault
first_in_front [] b fault is = absurd is
first_in_front (group ∷ a) b fault (inl here) = inl here
first_in_front (group ∷ a) b fault (inr later) = inr (later.0, first_in_front a b fault later.1)

-- the first failure is one of the first run, or the first run is holds and it is one of the second
pub first_or_second : {F : Type 0} (a b : List (Group F)) (fault : F) → IsFirstFault (a ++ b) fault → IsFirstFault a fault ⊎ (AllHold a × IsFirstFault b fault)
first_or_second [] b fault is = inr (tt, is)
first_or_second (group ∷ a) b fault (inl here) = inl (inl here)
first_or_second (group ∷ a) b fault (inr later) = elim (first_or_second a b fault later.1) [
  | inl first ↦ inl (inr (later.0, first))
  | inr second ↦ inr ((later.0, second.0), second.1)
]

-- no group fails in this way
abbrev pub NoneFails : {F : Type 0} → List (Group F) → F → Type 0
NoneFails [] fault = Unit {0}
NoneFails (group ∷ groups) fault = (group.fault fault → ⊥) × NoneFails groups fault

pub none_first : {F : Type 0} (groups : List (Group F)) (fault : F) → NoneFails groups fault → IsFirstFault groups fault → ⊥
none_first [] fault none is = is
none_first (group ∷ groups) fault none (inl here) = none.0 here
none_first (group ∷ groups) fault none (inr later) = none_first groups fault none.1 later.1

-- what follows if this many groups are holds and the next one fails in this way
abbrev pub AfterHolding : {F : Type 0} → ℕ → List (Group F) → F → Type 0 → Type 0
AfterHolding n [] fault Follows = Unit {0}
AfterHolding zero (group ∷ groups) fault Follows = group.fault fault → Follows
AfterHolding (suc n) (group ∷ groups) fault Follows = group.holds → AfterHolding n groups fault Follows

-- the failure is then the first
pub first_after : {F : Type 0} (n : ℕ) (groups : List (Group F)) (fault : F) (Follows : Type 0) → (IsFirstFault groups fault → Follows) → AfterHolding n groups fault Follows
first_after n [] fault Follows gives = tt
first_after zero (group ∷ groups) fault Follows gives = λ is. gives (inl is)
first_after (suc n) (group ∷ groups) fault Follows gives = λ holds. first_after n groups fault Follows (λ later. gives (inr (holds, later)))
