-- The calls of a command on the shelf are those of its plan.
use Rattle.std.proofs.Common.{◌≡◌, ◌⊎◌, ℕ, List, [], inl, inr, sym, subst, refl, append-nil}
use Rattle.ats_base.specs.Outside.{Ask, ShelfTold, IsLonger, Asked, ReadsAtMostOnce, StoresOnce}
use Rattle.ats_base.proofs.Public.{asked_none, asked_then, asked_as}
use Rattle.ats_plan.specs.Files.{Files, IsFile}
use Rattle.ats_plan.specs.Plan.{Plan, Finishes, Stores, Fails, Tries, Gets, Makes, Reads, AsksFor}
use Rattle.ats_plan.specs.Runs.{HasRead, Does, Stops}

-- if the shelf reports as before, there was no call
asked_same : (before now : ShelfTold) (such : List Ask → Type 0) → now ≡ before → such [] → Asked before.asked now.asked such
asked_same before now such same none = subst (λ (told : ShelfTold). Asked before.asked told.asked such) (sym same) (asked_none before.asked such none)

module _ {F : Type 0} (stores : List ℕ → List Ask → Type 0) where
  -- a plan allows that there is no call
  pub asks_nothing : (files : Files) (plan : Plan F) → AsksFor stores files plan []
  asks_nothing files (Finishes says) = refl
  asks_nothing files (Stores name bytes says) = inl refl
  asks_nothing files (Fails fault) = refl
  asks_nothing files (Tries holds fault rest) = inl refl
  asks_nothing files (Gets A is fault rest) = inl refl
  asks_nothing files (Makes A is rest) = inl refl
  asks_nothing files (Reads name limit long rest) = ([], [], refl, tt, inl refl)

  asked_nothing : (plan : Plan F) (before now : ShelfTold) → now ≡ before → Asked before.asked now.asked (AsksFor stores before.files plan)
  asked_nothing plan before now same = asked_same before now (AsksFor stores before.files plan) same (asks_nothing before.files plan)

  -- the calls after a step that holds
  asked_try : (holds : Type 0) (fault : F → Type 0) (rest : Plan F) (before now : ShelfTold) → holds → Asked before.asked now.asked (AsksFor stores before.files rest)
      → Asked before.asked now.asked (AsksFor stores before.files (Tries holds fault rest))
  asked_try holds fault rest before now is asked =
      asked_as before.asked now.asked (AsksFor stores before.files rest) (AsksFor stores before.files (Tries holds fault rest)) asked (λ asks right. inr (is, right))

  asked_make : (A : Type 0) (is : A → Type 0) (rest : A → Plan F) (before now : ShelfTold) (a : A) → is a
      → Asked before.asked now.asked (AsksFor stores before.files (rest a)) → Asked before.asked now.asked (AsksFor stores before.files (Makes A is rest))
  asked_make A is rest before now a holds asked =
      asked_as before.asked now.asked (AsksFor stores before.files (rest a)) (AsksFor stores before.files (Makes A is rest)) asked (λ asks right. inr (a, holds, right))

  module _ (name : List ℕ) (limit : ℕ) (long : Plan F) (rest : List ℕ → Plan F) (before : ShelfTold) where
    -- the calls of a read that is the last
    asked_unread : (now : ShelfTold) → HasRead before now name limit → Asked before.asked now.asked (AsksFor stores before.files (Reads name limit long rest))
    asked_unread now read =
        asked_as before.asked now.asked (ReadsAtMostOnce name limit) (AsksFor stores before.files (Reads name limit long rest)) read.asked
        (λ asks reads. (asks, [], sym (append-nil asks), reads, inl refl))

    -- the calls of a read and those after it
    asked_past : (next : Plan F) (mid now : ShelfTold) → HasRead before mid name limit
        → ((asks : List Ask) → AsksFor stores before.files next asks → (IsLonger before.files name limit × AsksFor stores before.files long asks)
        ⊎ ((bytes : List ℕ) × IsFile before.files name limit bytes × AsksFor stores before.files (rest bytes) asks))
        → Asked mid.asked now.asked (AsksFor stores mid.files next) → Asked before.asked now.asked (AsksFor stores before.files (Reads name limit long rest))
    asked_past next mid now read goes asked =
        asked_then before.asked mid.asked now.asked (ReadsAtMostOnce name limit) (AsksFor stores mid.files next) (AsksFor stores before.files (Reads name limit long rest))
        read.asked asked
        (λ first later reads right. (first, later, refl, reads, inr (goes later (subst (λ (files : Files). AsksFor stores files next later) read.files right))))

-- the calls of a command that is done are those of its plan
pub does_asked : {F : Type 0} (plan : Plan F) (before now : ShelfTold) (text : List ℕ) → Does plan before now text
    → Asked before.asked now.asked (AsksFor StoresOnce before.files plan)
does_asked {F} (Finishes says) before now text (same, holds) = asked_nothing {F = F} StoresOnce (Finishes says) before now same
does_asked {F} (Stores name bytes says) before now text (asked, counts, puts, holds) =
    asked_as before.asked now.asked (StoresOnce name) (AsksFor {F = F} StoresOnce before.files (Stores name bytes says)) asked (λ asks right. inr right)
does_asked (Fails fault) before now text done = absurd done
does_asked (Tries holds fault rest) before now text (is, done) = asked_try StoresOnce holds fault rest before now is (does_asked rest before now text done)
does_asked (Gets A is fault rest) before now text (a, holds, done) =
    asked_make StoresOnce A is rest before now a holds (does_asked (rest a) before now text done)
does_asked (Makes A is rest) before now text (a, holds, done) =
    asked_make StoresOnce A is rest before now a holds (does_asked (rest a) before now text done)
does_asked (Reads name limit long rest) before now text (mid, read, counts, inl (longer, done)) =
    asked_past StoresOnce name limit long rest before long mid now read (λ asks right. inl (longer, right)) (does_asked long mid now text done)
does_asked (Reads name limit long rest) before now text (mid, read, counts, inr (bytes, file, done)) =
    asked_past StoresOnce name limit long rest before (rest bytes) mid now read (λ asks right. inr (bytes, file, right)) (does_asked (rest bytes) mid now text done)

module _ {F : Type 0} (shelf memory : F) (stores : List ℕ → List Ask → Type 0) where
  -- the calls of a command that stopped are those of its plan, if a failed store is as `stores` says
  stopped_asked : (plan : Plan F) (before now : ShelfTold) (stop : F)
      → ((name : List ℕ) → stop ≡ shelf → (asks : List Ask) → StoresOnce name asks → stores name asks)
      → Stops shelf memory plan before now stop → Asked before.asked now.asked (AsksFor stores before.files plan)
  stopped_asked (Finishes says) before now stop failed (same, is) = asked_nothing {F = F} stores (Finishes says) before now same
  stopped_asked (Stores name bytes says) before now stop failed (inl (same, is)) = asked_nothing {F = F} stores (Stores name bytes says) before now same
  stopped_asked (Stores name bytes says) before now stop failed (inr (is, later, rose, asked, files)) =
      asked_as before.asked now.asked (StoresOnce name) (AsksFor {F = F} stores before.files (Stores name bytes says)) asked (λ asks right. inr (failed name is asks right))
  stopped_asked (Fails fault) before now stop failed (same, is) = asked_nothing stores (Fails fault) before now same
  stopped_asked (Tries holds fault rest) before now stop failed (inl (same, is)) = asked_nothing stores (Tries holds fault rest) before now same
  stopped_asked (Tries holds fault rest) before now stop failed (inr (is, later)) =
      asked_try stores holds fault rest before now is (stopped_asked rest before now stop failed later)
  stopped_asked (Gets A is fault rest) before now stop failed (inl (same, here)) = asked_nothing stores (Gets A is fault rest) before now same
  stopped_asked (Gets A is fault rest) before now stop failed (inr (a, holds, later)) =
      asked_make stores A is rest before now a holds (stopped_asked (rest a) before now stop failed later)
  stopped_asked (Makes A is rest) before now stop failed (inl (same, here)) = asked_nothing stores (Makes A is rest) before now same
  stopped_asked (Makes A is rest) before now stop failed (inr (a, holds, later)) =
      asked_make stores A is rest before now a holds (stopped_asked (rest a) before now stop failed later)
  stopped_asked (Reads name limit long rest) before now stop failed (inl (same, is)) = asked_nothing stores (Reads name limit long rest) before now same
  stopped_asked (Reads name limit long rest) before now stop failed (inr (inl (read, unread))) = asked_unread stores name limit long rest before now read
  stopped_asked (Reads name limit long rest) before now stop failed (inr (inr (mid, read, counts, inl (longer, later)))) =
      asked_past stores name limit long rest before long mid now read (λ asks right. inl (longer, right)) (stopped_asked long mid now stop failed later)
  stopped_asked (Reads name limit long rest) before now stop failed (inr (inr (mid, read, counts, inr (bytes, file, later)))) =
      asked_past stores name limit long rest before (rest bytes) mid now read (λ asks right. inr (bytes, file, right)) (stopped_asked (rest bytes) mid now stop failed later)

module _ {F : Type 0} (shelf memory : F) (plan : Plan F) (before now : ShelfTold) (stop : F) where
  pub stops_asked : Stops shelf memory plan before now stop → Asked before.asked now.asked (AsksFor StoresOnce before.files plan)
  stops_asked stops = stopped_asked shelf memory StoresOnce plan before now stop (λ name is asks right. right) stops

  -- a command that stopped for another cause than the shelf stored nothing
  pub stops_alone : Stops shelf memory plan before now stop → (stop ≡ shelf → ⊥) → Asked before.asked now.asked (AsksFor (λ name asks. ⊥) before.files plan)
  stops_alone stops other = stopped_asked shelf memory (λ name asks. ⊥) plan before now stop (λ name is asks right. other is) stops
