-- Groups of rules that are checked one after another: when all hold, and the first failure otherwise.
use Rattle.std.specs.Prelude.{◌≡◌, ◌⊎◌, List, [], ◌∷◌, ◌++◌}
use Rattle.std.specs.List.{All}

-- when a group of rules holds, and how it fails
pub record Group (F : Type 0) : Type 1 where
  pub holds : Type 0
  pub fault : F → Type 0

-- the group of one rule, which fails only by this, exactly if it does not hold
abbrev pub rule : {F : Type 0} → Type 0 → F → Group F
rule holds fault = record { holds = holds; fault = λ told. (told ≡ fault) × (holds → ⊥) }

abbrev pub AllHold : {F : Type 0} → List (Group F) → Type 0
AllHold [] = Unit {0}
AllHold (group ∷ groups) = group.holds × AllHold groups

-- the failure of the first group that fails; all groups before it hold
abbrev pub IsFirstFault : {F : Type 0} → List (Group F) → F → Type 0
IsFirstFault [] fault = ⊥
IsFirstFault (group ∷ groups) fault = group.fault fault ⊎ (group.holds × IsFirstFault groups fault)

-- the failure of the first of some elements that breaks its rules
pub record IsFirstOf {X F : Type 0} (Keeps : X → Type 0) (Fails : X → F → Type 0) (xs : List X) (told : F) : Type 0 where
  pub before : List X
  pub one : X
  pub after : List X
  pub stands : xs ≡ before ++ one ∷ after
  pub right : All Keeps before
  pub fault : Fails one told
