-- What a command is: the steps that it takes in order, and the text that it has at the end.
use Rattle.std.specs.Prelude.{◌≡◌, ◌⊎◌, ◌++◌, ℕ, List, []}
use Rattle.ats_base.specs.Outside.{Ask, IsMissing, IsLonger, ReadsAtMostOnce}
use Rattle.ats_plan.specs.Files.{Files, IsTold, IsFile, PutsPart}

-- F is why a command may stop. What a step finds decides the steps after it.
pub data Plan (F : Type 0) : Type 1 where
  -- it is done, with a text that satisfies this over its files
  Finishes : (Files → List ℕ → Type 0) → Plan F
  -- it stores these bytes under the name, and is done with a text that satisfies this over the files before and after
  Stores : (name bytes : List ℕ) → (Files → Files → List ℕ → Type 0) → Plan F
  -- it stops so
  Fails : F → Plan F
  -- this holds; or it stops, for a cause of the second kind
  Tries : Type 0 → (F → Type 0) → Plan F → Plan F
  -- there is a value that satisfies this, and it goes on with that value; or it stops, for a cause of the second kind
  Gets : (A : Type 0) → (A → Type 0) → (F → Type 0) → (A → Plan F) → Plan F
  -- it makes a value that satisfies this, and goes on with that value; only memory may be missing for it
  Makes : (A : Type 0) → (A → Type 0) → (A → Plan F) → Plan F
  -- it reads the named file; it goes on in the first way if the file has more bytes than the limit, else with its bytes
  Reads : (name : List ℕ) → (limit : ℕ) → Plan F → (List ℕ → Plan F) → Plan F

-- the first step that does not hold stops it so; `shelf` is the stop for a file that is missing
abbrev pub Refuses : {F : Type 0} → (shelf : F) → Files → Plan F → F → Type 0
Refuses shelf files (Finishes says) stop = ⊥
Refuses shelf files (Stores name bytes says) stop = ⊥
Refuses shelf files (Fails fault) stop = stop ≡ fault
Refuses shelf files (Tries holds fault rest) stop = fault stop ⊎ (holds × Refuses shelf files rest stop)
Refuses shelf files (Gets A is fault rest) stop = fault stop ⊎ ((a : A) × is a × Refuses shelf files (rest a) stop)
Refuses shelf files (Makes A is rest) stop = (a : A) × is a × Refuses shelf files (rest a) stop
Refuses shelf files (Reads name limit long rest) stop = ((stop ≡ shelf) × IsMissing files name)
    ⊎ ((IsLonger files name limit × Refuses shelf files long stop)
    ⊎ ((bytes : List ℕ) × IsFile files name limit bytes × Refuses shelf files (rest bytes) stop))

-- All steps hold, whatever values it makes. A made value is always there unless memory runs out, so a reader of the
-- clause never has to show that it exists.
abbrev pub Passes : {F : Type 0} → Files → Plan F → Type 0
Passes files (Finishes says) = Unit {0}
Passes files (Stores name bytes says) = Unit {0}
Passes files (Fails fault) = ⊥
Passes files (Tries holds fault rest) = holds × Passes files rest
Passes files (Gets A is fault rest) = (a : A) × is a × Passes files (rest a)
Passes files (Makes A is rest) = (a : A) → is a → Passes files (rest a)
Passes files (Reads name limit long rest) = (IsLonger files name limit × Passes files long)
    ⊎ ((bytes : List ℕ) × IsFile files name limit bytes × Passes files (rest bytes))

-- all steps before the first call on the shelf hold, and there is such a call
abbrev pub ComesToShelf : {F : Type 0} → Plan F → Type 0
ComesToShelf (Finishes says) = ⊥
ComesToShelf (Stores name bytes says) = Unit {0}
ComesToShelf (Fails fault) = ⊥
ComesToShelf (Tries holds fault rest) = holds × ComesToShelf rest
ComesToShelf (Gets A is fault rest) = (a : A) × is a × ComesToShelf (rest a)
ComesToShelf (Makes A is rest) = (a : A) × is a × ComesToShelf (rest a)
ComesToShelf (Reads name limit long rest) = Unit {0}

-- what is known of the files decides each step: the shelf reports them, or no call on it is made
abbrev pub IsKnown : {F : Type 0} → Files → Plan F → Type 0
IsKnown files plan = IsTold files ⊎ (ComesToShelf plan → ⊥)

-- the first file that it reads is missing
abbrev pub LacksFirst : {F : Type 0} → Files → Plan F → Type 0
LacksFirst files (Finishes says) = ⊥
LacksFirst files (Stores name bytes says) = ⊥
LacksFirst files (Fails fault) = ⊥
LacksFirst files (Tries holds fault rest) = holds → LacksFirst files rest
LacksFirst files (Gets A is fault rest) = (a : A) → is a → LacksFirst files (rest a)
LacksFirst files (Makes A is rest) = (a : A) → is a → LacksFirst files (rest a)
LacksFirst files (Reads name limit long rest) = IsMissing files name

-- The calls on the shelf are those of the steps in order, or the first of them. Each file is read at most once, and after
-- one that stops the command there is no call. `stores` is what may be called to store the named file.
abbrev pub AsksFor : {F : Type 0} → (stores : List ℕ → List Ask → Type 0) → Files → Plan F → List Ask → Type 0
AsksFor stores files (Finishes says) asks = asks ≡ []
AsksFor stores files (Stores name bytes says) asks = (asks ≡ []) ⊎ stores name asks
AsksFor stores files (Fails fault) asks = asks ≡ []
AsksFor stores files (Tries holds fault rest) asks = (asks ≡ []) ⊎ (holds × AsksFor stores files rest asks)
AsksFor stores files (Gets A is fault rest) asks =
    (asks ≡ []) ⊎ ((a : A) × is a × AsksFor stores files (rest a) asks)
AsksFor stores files (Makes A is rest) asks = (asks ≡ []) ⊎ ((a : A) × is a × AsksFor stores files (rest a) asks)
AsksFor stores files (Reads name limit long rest) asks =
    (first : List Ask) × (later : List Ask) × (asks ≡ first ++ later) × ReadsAtMostOnce name limit first
    × ((later ≡ []) ⊎ ((IsLonger files name limit × AsksFor stores files long later)
    ⊎ ((bytes : List ℕ) × IsFile files name limit bytes × AsksFor stores files (rest bytes) later)))

-- what it may leave of the files: a prefix of those bytes under that name, which may be all of them
abbrev pub Leaves : {F : Type 0} → (before now : Files) → Plan F → Type 0
Leaves before now (Finishes says) = ⊥
Leaves before now (Stores name bytes says) = PutsPart before now name bytes
Leaves before now (Fails fault) = ⊥
Leaves before now (Tries holds fault rest) = holds × Leaves before now rest
Leaves before now (Gets A is fault rest) = (a : A) × is a × Leaves before now (rest a)
Leaves before now (Makes A is rest) = (a : A) × is a × Leaves before now (rest a)
Leaves before now (Reads name limit long rest) = (IsLonger before name limit × Leaves before now long)
    ⊎ ((bytes : List ℕ) × IsFile before name limit bytes × Leaves before now (rest bytes))
