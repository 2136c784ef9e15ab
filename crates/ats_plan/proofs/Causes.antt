-- Each stop has a cause in the files, in memory or in the shelf; and if a command is done, its plan passes.
use Rattle.std.proofs.Common.{◌≡◌, ℕ, List, inl, inr, refl, subst}
use Rattle.ats_base.specs.Outside.{ShelfTold, Rose}
use Rattle.ats_plan.specs.Files.{Files}
use Rattle.ats_plan.specs.Plan.{Plan, Finishes, Stores, Fails, Tries, Gets, Makes, Reads, Refuses, Passes, ComesToShelf}
use Rattle.ats_plan.specs.Inner.Sound.{IsSound}
use Rattle.ats_plan.specs.Runs.{IsUnread, Missing, Failed, NoMemory, Does, Stops}

-- Why it stopped: its files refuse the plan, memory ran out, or the shelf, to which it came, failed.
pub data Cause {F : Type 0} (shelf memory : F) (plan : Plan F) (before now : ShelfTold) (stop : F) : Type 0 where
  Refused : Refuses shelf before.files plan stop → Cause shelf memory plan before now stop
  Wanted : stop ≡ memory → Cause shelf memory plan before now stop
  Broken : stop ≡ shelf → ComesToShelf plan → Rose before.faults now.faults → Cause shelf memory plan before now stop

module _ {F : Type 0} (shelf memory : F) where
  -- the cause of a stop of the rest of a plan is a cause for the plan
  past_cause : (plan rest : Plan F) (before mid now : ShelfTold) (stop : F) → mid.faults ≡ before.faults
      → (Refuses shelf mid.files rest stop → Refuses shelf before.files plan stop) → (ComesToShelf rest → ComesToShelf plan)
      → Cause shelf memory rest mid now stop → Cause shelf memory plan before now stop
  past_cause plan rest before mid now stop counts refused comes (Refused refuses) = Refused (refused refuses)
  past_cause plan rest before mid now stop counts refused comes (Wanted same) = Wanted same
  past_cause plan rest before mid now stop counts refused comes (Broken same came rose) =
      Broken same (comes came) (subst (λ (faults : ℕ). Rose faults now.faults) counts rose)

  unread_cause : (name : List ℕ) (limit : ℕ) (long : Plan F) (rest : List ℕ → Plan F) (before now : ShelfTold) (stop : F)
      → IsUnread shelf memory before now name stop → Cause shelf memory (Reads name limit long rest) before now stop
  unread_cause name limit long rest before now stop (Missing is missing) = Refused (inl (is, missing))
  unread_cause name limit long rest before now stop (Failed is rose) = Broken is tt rose
  unread_cause name limit long rest before now stop (NoMemory is counts) = Wanted is

  pub stop_cause : (plan : Plan F) (before now : ShelfTold) (stop : F) → Stops shelf memory plan before now stop → Cause shelf memory plan before now stop
  stop_cause (Finishes says) before now stop (same, is) = Wanted is
  stop_cause (Stores name bytes says) before now stop (inl (same, is)) = Wanted is
  stop_cause (Stores name bytes says) before now stop (inr (is, later, rose, asked, files)) = Broken is tt rose
  stop_cause (Fails fault) before now stop (same, inl is) = Wanted is
  stop_cause (Fails fault) before now stop (same, inr is) = Refused is
  stop_cause (Tries holds fault rest) before now stop (inl (same, inl is)) = Wanted is
  stop_cause (Tries holds fault rest) before now stop (inl (same, inr here)) = Refused (inl here)
  stop_cause (Tries holds fault rest) before now stop (inr (is, later)) =
      past_cause (Tries holds fault rest) rest before before now stop refl (λ refuses. inr (is, refuses)) (λ comes. (is, comes)) (stop_cause rest before now stop later)
  stop_cause (Gets A is fault rest) before now stop (inl (same, inl memory)) = Wanted memory
  stop_cause (Gets A is fault rest) before now stop (inl (same, inr here)) = Refused (inl here)
  stop_cause (Gets A is fault rest) before now stop (inr (a, holds, later)) =
      past_cause (Gets A is fault rest) (rest a) before before now stop refl (λ refuses. inr (a, holds, refuses)) (λ comes. (a, holds, comes))
      (stop_cause (rest a) before now stop later)
  stop_cause (Makes A is rest) before now stop (inl (same, memory)) = Wanted memory
  stop_cause (Makes A is rest) before now stop (inr (a, holds, later)) =
      past_cause (Makes A is rest) (rest a) before before now stop refl (λ refuses. (a, holds, refuses)) (λ comes. (a, holds, comes))
      (stop_cause (rest a) before now stop later)
  stop_cause (Reads name limit long rest) before now stop (inl (same, is)) = Wanted is
  stop_cause (Reads name limit long rest) before now stop (inr (inl (read, unread))) = unread_cause name limit long rest before now stop unread
  stop_cause (Reads name limit long rest) before now stop (inr (inr (mid, read, counts, inl (longer, later)))) =
      past_cause (Reads name limit long rest) long before mid now stop counts
      (λ refuses. inr (inl (longer, subst (λ (files : Files). Refuses shelf files long stop) read.files refuses))) (λ comes. tt) (stop_cause long mid now stop later)
  stop_cause (Reads name limit long rest) before now stop (inr (inr (mid, read, counts, inr (bytes, file, later)))) =
      past_cause (Reads name limit long rest) (rest bytes) before mid now stop counts
      (λ refuses. inr (inr (bytes, file, subst (λ (files : Files). Refuses shelf files (rest bytes) stop) read.files refuses))) (λ comes. tt)
      (stop_cause (rest bytes) mid now stop later)

-- if a command is done, all steps of its plan hold, which goes one way at most
pub does_passes : {F : Type 0} (plan : Plan F) (before now : ShelfTold) (text : List ℕ) → IsSound plan → Does plan before now text → Passes before.files plan
does_passes (Finishes says) before now text sound done = tt
does_passes (Stores name bytes says) before now text sound done = tt
does_passes (Fails fault) before now text sound done = done
does_passes (Tries holds fault rest) before now text sound (is, done) = (is, does_passes rest before now text sound.1 done)
does_passes (Gets A is fault rest) before now text sound (a, holds, done) = (a, holds, does_passes (rest a) before now text (sound.1 a) done)
does_passes (Makes A is rest) before now text sound (a, holds, done) =
    λ b also. subst (λ (x : A). Passes before.files (rest x)) (sound.0 a b holds also) (does_passes (rest a) before now text (sound.1 a) done)
does_passes (Reads name limit long rest) before now text sound (mid, read, counts, inl (longer, done)) =
    inl (longer, subst (λ (files : Files). Passes files long) read.files (does_passes long mid now text sound.0 done))
does_passes (Reads name limit long rest) before now text sound (mid, read, counts, inr (bytes, file, done)) =
    inr (bytes, file, subst (λ (files : Files). Passes files (rest bytes)) read.files (does_passes (rest bytes) mid now text (sound.1 bytes) done))
