-- Laws of groups of rules that are checked one after another.
use Rattle.std.proofs.Common.{◌≡◌, ◌∙◌, ◌⊎◌, List, [], ◌∷◌, inl, inr, sym}
use Rattle.ats_base.specs.Rules.{Group, rule, AllHold, IsFirstFault}

-- a group that fails does not hold, and fails in one way
pub record IsExact {F : Type 0} (group : Group F) : Type 0 where
  pub breaks : (fault : F) → group.fault fault → group.holds → ⊥
  pub one : (a b : F) → group.fault a → group.fault b → a ≡ b

-- a rule is exact
pub one_way : {F : Type 0} (holds : Type 0) (fault : F) → IsExact (rule holds fault)
one_way holds fault = record { breaks = λ told is. is.1; one = λ a b is also. is.0 ∙ sym also.0 }

-- a group that fails only by x is exact
pub fails_by : {F : Type 0} (x : F) (group : Group F) → ((a : F) → group.fault a → (a ≡ x) × (group.holds → ⊥)) → IsExact group
fails_by x group is = record { breaks = λ a fault holds. (is a fault).1 holds; one = λ a b fault also. (is a fault).0 ∙ sym (is b also).0 }

abbrev pub AreExact : {F : Type 0} → List (Group F) → Type 0
AreExact [] = Unit {0}
AreExact (group ∷ groups) = IsExact group × AreExact groups

-- if a group fails first, not all hold
pub not_all_hold : {F : Type 0} (groups : List (Group F)) (fault : F) → AreExact groups → IsFirstFault groups fault → AllHold groups → ⊥
not_all_hold [] fault exact is holds = is
not_all_hold (group ∷ groups) fault exact (inl is) holds = exact.0.breaks fault is holds.0
not_all_hold (group ∷ groups) fault exact (inr later) holds = not_all_hold groups fault exact.1 later.1 holds.1

-- there is one first failure
pub one_first : {F : Type 0} (groups : List (Group F)) (a b : F) → AreExact groups → IsFirstFault groups a → IsFirstFault groups b → a ≡ b
one_first [] a b exact is also = absurd is
one_first (group ∷ groups) a b exact (inl is) (inl also) = exact.0.one a b is also
one_first (group ∷ groups) a b exact (inl is) (inr later) = absurd (exact.0.breaks a is later.0)
one_first (group ∷ groups) a b exact (inr later) (inl is) = absurd (exact.0.breaks b is later.0)
one_first (group ∷ groups) a b exact (inr later) (inr also) = one_first groups a b exact.1 later.1 also.1

-- if each group holds or fails, all hold or one fails first
abbrev pub AreTried : {F : Type 0} → List (Group F) → Type 0
AreTried [] = Unit {0}
AreTried {F} (group ∷ groups) = (group.holds ⊎ ((fault : F) × group.fault fault)) × AreTried groups

pub hold_or_first : {F : Type 0} (groups : List (Group F)) → AreTried groups → AllHold groups ⊎ ((fault : F) × IsFirstFault groups fault)
hold_or_first [] tried = inl tt
hold_or_first (group ∷ groups) (inr fails, later) = inr (fails.0, inl fails.1)
hold_or_first (group ∷ groups) (inl holds, later) = elim (hold_or_first groups later) [
  | inl all ↦ inl (holds, all)
  | inr first ↦ inr (first.0, inr (holds, first.1))
]
