-- What each end of a plan says is said of a command that is done.
use Rattle.std.proofs.Common.{ℕ, List, inl, inr, subst}
use Rattle.ats_base.specs.Outside.{ShelfTold}
use Rattle.ats_plan.specs.Files.{Files}
use Rattle.ats_plan.specs.Plan.{Plan, Finishes, Stores, Fails, Tries, Gets, Makes, Reads}
use Rattle.ats_plan.specs.Runs.{Does}

-- the plan stores nothing, and whatever values it goes on with, the text at its end satisfies this over its files
abbrev pub EndsIn : {F : Type 0} → (P : Files → List ℕ → Type 0) → Plan F → Type 0
EndsIn P (Finishes says) = (files : Files) (text : List ℕ) → says files text → P files text
EndsIn P (Stores name bytes says) = ⊥
EndsIn P (Fails fault) = Unit {0}
EndsIn P (Tries holds fault rest) = EndsIn P rest
EndsIn P (Gets A is fault rest) = (a : A) → EndsIn P (rest a)
EndsIn P (Makes A is rest) = (a : A) → EndsIn P (rest a)
EndsIn P (Reads name limit long rest) = EndsIn P long × ((bytes : List ℕ) → EndsIn P (rest bytes))

module _ {F : Type 0} (P : Files → List ℕ → Type 0) where
  -- the text of a command that is done satisfies it, over the files before the command
  pub does_end : (plan : Plan F) (before now : ShelfTold) (text : List ℕ) → EndsIn P plan → Does plan before now text → P before.files text
  does_end (Finishes says) before now text ends (same, is) = ends before.files text is
  does_end (Stores name bytes says) before now text ends done = absurd ends
  does_end (Fails fault) before now text ends done = absurd done
  does_end (Tries holds fault rest) before now text ends (is, done) = does_end rest before now text ends done
  does_end (Gets A is fault rest) before now text ends (a, holds, done) = does_end (rest a) before now text (ends a) done
  does_end (Makes A is rest) before now text ends (a, holds, done) = does_end (rest a) before now text (ends a) done
  does_end (Reads name limit long rest) before now text ends (mid, read, counts, inl (longer, done)) =
      subst (λ (files : Files). P files text) read.files (does_end long mid now text ends.0 done)
  does_end (Reads name limit long rest) before now text ends (mid, read, counts, inr (bytes, file, done)) =
      subst (λ (files : Files). P files text) read.files (does_end (rest bytes) mid now text (ends.1 bytes) done)
