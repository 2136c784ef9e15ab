-- How a command of a plan stops or is done, from how the rest of its plan does.
use Rattle.std.proofs.Common.{◌≡◌, ◌⊎◌, ◌≤◌, ℕ, List, inl, inr, refl}
use Rattle.ats_base.specs.Outside.{ShelfTold, Rose, Puts, Asked, StoresOnce}
use Rattle.ats_plan.specs.Files.{Files, PutsPart}
use Rattle.ats_plan.specs.Plan.{Plan, Finishes, Stores, Fails, Tries, Gets, Makes, Reads}
use Rattle.ats_plan.specs.Runs.{Stops, IsStopped, IsDone}

stops_first : {F : Type 0} (shelf memory : F) (plan : Plan F) (told : ShelfTold) → Stops shelf memory plan told told memory
stops_first shelf memory (Finishes says) told = (refl, refl)
stops_first shelf memory (Stores name bytes says) told = inl (refl, refl)
stops_first shelf memory (Fails fault) told = (refl, inl refl)
stops_first shelf memory (Tries holds fault rest) told = inl (refl, inl refl)
stops_first shelf memory (Gets A is fault rest) told = inl (refl, inl refl)
stops_first shelf memory (Makes A is rest) told = inl (refl, refl)
stops_first shelf memory (Reads name limit long rest) told = inl (refl, refl)

-- it stops at the first step
module _ {F : Type 0} {shelf memory : F} {before : ShelfTold} where
  -- memory ran out before the first step
  pub at_memory : {plan : Plan F} → IsStopped shelf memory plan before before memory
  at_memory {plan} = record { so = stops_first shelf memory plan before }

  pub at_try : {holds : Type 0} {fault : F → Type 0} {rest : Plan F} {stop : F} → fault stop
      → IsStopped shelf memory (Tries holds fault rest) before before stop
  at_try fault = record { so = inl (refl, inr fault) }

  pub at_get : {A : Type 0} {is : A → Type 0} {fault : F → Type 0} {rest : A → Plan F} {stop : F} → fault stop
      → IsStopped shelf memory (Gets A is fault rest) before before stop
  at_get fault = record { so = inl (refl, inr fault) }

module _ {F : Type 0} {shelf memory : F} {before now : ShelfTold} where
  -- the file was not stored, or a part of it was
  pub at_store : {name bytes : List ℕ} {says : Files → Files → List ℕ → Type 0} {stop : F} → stop ≡ shelf
      → before.faults ≤ now.faults → Rose before.faults now.faults → Asked before.asked now.asked (StoresOnce name)
      → (now.files ≡ before.files) ⊎ PutsPart before.files now.files name bytes
      → IsStopped shelf memory (Stores name bytes says) before now stop
  at_store is later rose asked files = record { so = inr (is, later, rose, asked, files) }

-- it is done
module _ {F : Type 0} {before now : ShelfTold} {text : List ℕ} where
  pub done_store : {name bytes : List ℕ} {says : Files → Files → List ℕ → Type 0} → Asked before.asked now.asked (StoresOnce name)
      → now.faults ≡ before.faults → Puts before.files now.files name bytes → says before.files now.files text
      → IsDone {F = F} (Stores name bytes says) before now text
  done_store asked counts puts holds = record { so = (asked, counts, puts, holds) }

  pub done_try : {holds : Type 0} {fault : F → Type 0} {rest : Plan F} → holds → IsDone rest before now text
      → IsDone (Tries holds fault rest) before now text
  done_try holds later = record { so = (holds, later.so) }

  pub done_get : {A : Type 0} {is : A → Type 0} {fault : F → Type 0} {rest : A → Plan F} (a : A) → is a
      → IsDone (rest a) before now text → IsDone (Gets A is fault rest) before now text
  done_get a holds later = record { so = (a, holds, later.so) }

pub done_end : {F : Type 0} {before : ShelfTold} {text : List ℕ} {says : Files → List ℕ → Type 0} → says before.files text
    → IsDone {F = F} (Finishes says) before before text
done_end holds = record { so = (refl, holds) }
