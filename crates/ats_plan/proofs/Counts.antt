-- The count of faults does not fall, and only a fault of the shelf raises it.
use Rattle.std.proofs.Common.{◌≡◌, ◌≤◌, ◌∙◌, ℕ, List, inl, inr, ap, subst, arith}
use Rattle.ats_base.specs.Outside.{ShelfTold}
use Rattle.ats_plan.specs.Plan.{Plan, Finishes, Stores, Fails, Tries, Gets, Makes, Reads, LacksFirst}
use Rattle.ats_plan.specs.Runs.{HasRead, IsUnread, Missing, Failed, NoMemory, Does, Stops}
use Rattle.ats_plan.proofs.Files.{file_there, missing_short}

same_counts : (before now : ShelfTold) → now ≡ before → now.faults ≡ before.faults
same_counts before now same = ap (λ (told : ShelfTold). told.faults) same

not_fewer : (before now : ℕ) → now ≡ before → before ≤ now
not_fewer before now same = omega (arith, same)

-- a command that is done leaves the count
pub does_counts : {F : Type 0} (plan : Plan F) (before now : ShelfTold) (text : List ℕ) → Does plan before now text → now.faults ≡ before.faults
does_counts (Finishes says) before now text (same, holds) = same_counts before now same
does_counts (Stores name bytes says) before now text (asked, counts, puts, holds) = counts
does_counts (Fails fault) before now text done = absurd done
does_counts (Tries holds fault rest) before now text (is, done) = does_counts rest before now text done
does_counts (Gets A is fault rest) before now text (a, holds, done) = does_counts (rest a) before now text done
does_counts (Makes A is rest) before now text (a, holds, done) = does_counts (rest a) before now text done
does_counts (Reads name limit long rest) before now text (mid, read, counts, inl (longer, done)) = does_counts long mid now text done ∙ counts
does_counts (Reads name limit long rest) before now text (mid, read, counts, inr (bytes, file, done)) = does_counts (rest bytes) mid now text done ∙ counts

pub does_later : {F : Type 0} (plan : Plan F) (before now : ShelfTold) (text : List ℕ) → Does plan before now text → before.faults ≤ now.faults
does_later plan before now text done = not_fewer before.faults now.faults (does_counts plan before now text done)

module _ {F : Type 0} (shelf memory : F) where
  unread_counts : (before now : ShelfTold) (name : List ℕ) (stop : F) → IsUnread shelf memory before now name stop → (stop ≡ shelf → ⊥) → now.faults ≡ before.faults
  unread_counts before now name stop (Missing is missing) other = absurd (other is)
  unread_counts before now name stop (Failed is rose) other = absurd (other is)
  unread_counts before now name stop (NoMemory is counts) other = counts

  -- What holds if nothing changed, after a failed store and after a file that was not read, and stays so after a file that
  -- was, holds between the two ends of a command that stopped.
  module _ (holds : (before now : ShelfTold) → Type 0) (stop : F) (same : (before now : ShelfTold) → now ≡ before → holds before now)
      (store : (before now : ShelfTold) → stop ≡ shelf → before.faults ≤ now.faults → holds before now)
      (unread : (before now : ShelfTold) (name : List ℕ) (limit : ℕ) → HasRead before now name limit → IsUnread shelf memory before now name stop → holds before now)
      (read : (before mid now : ShelfTold) (name : List ℕ) (limit : ℕ) → HasRead before mid name limit → mid.faults ≡ before.faults → holds mid now → holds before now) where
    pub stops_keep : (plan : Plan F) (before now : ShelfTold) → Stops shelf memory plan before now stop → holds before now
    stops_keep (Finishes says) before now (is, _) = same before now is
    stops_keep (Stores name bytes says) before now (inl (is, _)) = same before now is
    stops_keep (Stores name bytes says) before now (inr (is, later, _, _, _)) = store before now is later
    stops_keep (Fails fault) before now (is, _) = same before now is
    stops_keep (Tries holds fault rest) before now (inl (is, _)) = same before now is
    stops_keep (Tries holds fault rest) before now (inr (_, later)) = stops_keep rest before now later
    stops_keep (Gets A is fault rest) before now (inl (is_same, _)) = same before now is_same
    stops_keep (Gets A is fault rest) before now (inr (a, _, later)) = stops_keep (rest a) before now later
    stops_keep (Makes A is rest) before now (inl (is_same, _)) = same before now is_same
    stops_keep (Makes A is rest) before now (inr (a, _, later)) = stops_keep (rest a) before now later
    stops_keep (Reads name limit long rest) before now (inl (is, _)) = same before now is
    stops_keep (Reads name limit long rest) before now (inr (inl (has, why))) = unread before now name limit has why
    stops_keep (Reads name limit long rest) before now (inr (inr (mid, has, counts, inl (_, later)))) =
        read before mid now name limit has counts (stops_keep long mid now later)
    stops_keep (Reads name limit long rest) before now (inr (inr (mid, has, counts, inr (bytes, _, later)))) =
        read before mid now name limit has counts (stops_keep (rest bytes) mid now later)

  -- a stop for another cause than the shelf leaves the count
  pub stops_counts : (plan : Plan F) (before now : ShelfTold) (stop : F) → Stops shelf memory plan before now stop → (stop ≡ shelf → ⊥)
      → now.faults ≡ before.faults
  stops_counts plan before now stop stops other = stops_keep (λ (before now : ShelfTold). now.faults ≡ before.faults) stop same_counts
      (λ before now is later. absurd (other is)) (λ before now name limit read unread. unread_counts before now name stop unread other)
      (λ before mid now name limit read counts rest. rest ∙ counts) plan before now stops

  -- no stop lowers the count
  pub stops_later : (plan : Plan F) (before now : ShelfTold) (stop : F) → Stops shelf memory plan before now stop → before.faults ≤ now.faults
  stops_later plan before now stop stops = stops_keep (λ (before now : ShelfTold). before.faults ≤ now.faults) stop
      (λ before now same. not_fewer before.faults now.faults (same_counts before now same)) (λ before now is later. later)
      (λ before now name limit read unread. read.later)
      (λ before mid now name limit read counts rest. subst (λ (faults : ℕ). faults ≤ now.faults) counts rest) plan before now stops

  -- if the first file is missing, a stop leaves the count
  pub stops_uncounted : (plan : Plan F) (before now : ShelfTold) (stop : F) → LacksFirst before.files plan → Stops shelf memory plan before now stop
      → now.faults ≡ before.faults
  stops_uncounted (Finishes says) before now stop lacks stops = absurd lacks
  stops_uncounted (Stores name bytes says) before now stop lacks stops = absurd lacks
  stops_uncounted (Fails fault) before now stop lacks stops = absurd lacks
  stops_uncounted (Tries holds fault rest) before now stop lacks (inl (same, is)) = same_counts before now same
  stops_uncounted (Tries holds fault rest) before now stop lacks (inr (is, later)) = stops_uncounted rest before now stop (lacks is) later
  stops_uncounted (Gets A is fault rest) before now stop lacks (inl (same, here)) = same_counts before now same
  stops_uncounted (Gets A is fault rest) before now stop lacks (inr (a, holds, later)) = stops_uncounted (rest a) before now stop (lacks a holds) later
  stops_uncounted (Makes A is rest) before now stop lacks (inl (same, here)) = same_counts before now same
  stops_uncounted (Makes A is rest) before now stop lacks (inr (a, holds, later)) = stops_uncounted (rest a) before now stop (lacks a holds) later
  stops_uncounted (Reads name limit long rest) before now stop lacks (inl (same, is)) = same_counts before now same
  stops_uncounted (Reads name limit long rest) before now stop lacks (inr (inl (read, unread))) = read.uncounted lacks
  stops_uncounted (Reads name limit long rest) before now stop lacks (inr (inr (mid, read, counts, inl (longer, later)))) =
      absurd (missing_short before.files name limit lacks longer)
  stops_uncounted (Reads name limit long rest) before now stop lacks (inr (inr (mid, read, counts, inr (bytes, file, later)))) =
      absurd (file_there before.files name bytes limit lacks file)
