-- How a command of a plan goes, from what the shelf reported before it to what it reports after it.
use Rattle.std.specs.Prelude.{◌≡◌, ◌⊎◌, ◌≤◌, ℕ, List}
use Rattle.ats_base.specs.Outside.{ShelfTold, Rose, IsMissing, IsLonger, Puts, Asked, ReadsAtMostOnce, StoresOnce}
use Rattle.ats_plan.specs.Files.{IsFile, PutsPart}
use Rattle.ats_plan.specs.Plan.{Plan, Finishes, Stores, Fails, Tries, Gets, Makes, Reads}

-- what reading one file leaves of the shelf
pub record HasRead (before now : ShelfTold) (name : List ℕ) (limit : ℕ) : Type 0 where
  pub files : now.files ≡ before.files
  pub later : before.faults ≤ now.faults
  pub uncounted : IsMissing before.files name → now.faults ≡ before.faults
  pub asked : Asked before.asked now.asked (ReadsAtMostOnce name limit)

-- why a file was not read: it is missing, a call failed, or memory ran out
pub data IsUnread {F : Type 0} (shelf memory : F) (before now : ShelfTold) (name : List ℕ) (stop : F) : Type 0 where
  Missing : stop ≡ shelf → IsMissing before.files name → IsUnread shelf memory before now name stop
  Failed : stop ≡ shelf → Rose before.faults now.faults → IsUnread shelf memory before now name stop
  NoMemory : stop ≡ memory → now.faults ≡ before.faults → IsUnread shelf memory before now name stop

-- all steps hold, and the text is as the plan says
abbrev pub Does : {F : Type 0} → Plan F → (before now : ShelfTold) → List ℕ → Type 0
Does (Finishes says) before now text = (now ≡ before) × says before.files text
Does (Stores name bytes says) before now text = Asked before.asked now.asked (StoresOnce name)
    × (now.faults ≡ before.faults) × Puts before.files now.files name bytes × says before.files now.files text
Does (Fails fault) before now text = ⊥
Does (Tries holds fault rest) before now text = holds × Does rest before now text
Does (Gets A is fault rest) before now text = (a : A) × is a × Does (rest a) before now text
Does (Makes A is rest) before now text = (a : A) × is a × Does (rest a) before now text
Does (Reads name limit long rest) before now text = (mid : ShelfTold)
    × HasRead before mid name limit × (mid.faults ≡ before.faults)
    × ((IsLonger before.files name limit × Does long mid now text)
    ⊎ ((bytes : List ℕ) × IsFile before.files name limit bytes × Does (rest bytes) mid now text))

-- it stopped at this step, since memory ran out or the step does not hold; or at a later one
abbrev pub Stops : {F : Type 0} → (shelf memory : F) → Plan F → (before now : ShelfTold) → F → Type 0
Stops shelf memory (Finishes says) before now stop = (now ≡ before) × (stop ≡ memory)
Stops shelf memory (Stores name bytes says) before now stop = ((now ≡ before) × (stop ≡ memory))
    ⊎ ((stop ≡ shelf) × (before.faults ≤ now.faults) × Rose before.faults now.faults
    × Asked before.asked now.asked (StoresOnce name)
    × ((now.files ≡ before.files) ⊎ PutsPart before.files now.files name bytes))
Stops shelf memory (Fails fault) before now stop = (now ≡ before) × ((stop ≡ memory) ⊎ (stop ≡ fault))
Stops shelf memory (Tries holds fault rest) before now stop = ((now ≡ before) × ((stop ≡ memory) ⊎ fault stop))
    ⊎ (holds × Stops shelf memory rest before now stop)
Stops shelf memory (Gets A is fault rest) before now stop = ((now ≡ before) × ((stop ≡ memory) ⊎ fault stop))
    ⊎ ((a : A) × is a × Stops shelf memory (rest a) before now stop)
Stops shelf memory (Makes A is rest) before now stop = ((now ≡ before) × (stop ≡ memory))
    ⊎ ((a : A) × is a × Stops shelf memory (rest a) before now stop)
Stops shelf memory (Reads name limit long rest) before now stop = ((now ≡ before) × (stop ≡ memory))
    ⊎ ((HasRead before now name limit × IsUnread shelf memory before now name stop)
    ⊎ ((mid : ShelfTold) × HasRead before mid name limit × (mid.faults ≡ before.faults)
    × ((IsLonger before.files name limit × Stops shelf memory long mid now stop)
    ⊎ ((bytes : List ℕ) × IsFile before.files name limit bytes × Stops shelf memory (rest bytes) mid now stop))))

-- a command of this plan is done, with this text
pub record IsDone {F : Type 0} (plan : Plan F) (before now : ShelfTold) (text : List ℕ) : Type 0 where
  pub so : Does plan before now text

-- a command of this plan stopped so; `shelf` is the stop for a file that is missing and for a fault of the shelf,
-- `memory` that for out of memory, which needs no cause
pub record IsStopped {F : Type 0} (shelf memory : F) (plan : Plan F) (before now : ShelfTold) (stop : F) : Type 0 where
  pub so : Stops shelf memory plan before now stop
