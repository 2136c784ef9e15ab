-- A stop for out of memory in place of another stop, and a command that does not come to the shelf.
use Rattle.std.proofs.Common.{◌≡◌, ℕ, List, inl, inr, refl}
use Rattle.ats_base.specs.Outside.{ShelfTold}
use Rattle.ats_plan.specs.Plan.{Plan, Finishes, Stores, Fails, Tries, Gets, Makes, Reads, ComesToShelf}
use Rattle.ats_plan.specs.Runs.{IsUnread, Missing, Failed, NoMemory, Does, Stops}

module _ {F : Type 0} (shelf memory : F) where
  unread_memory : (before now : ShelfTold) (name : List ℕ) (stop : F) → IsUnread shelf memory before now name stop → (stop ≡ shelf → ⊥)
      → IsUnread shelf memory before now name memory
  unread_memory before now name stop (Missing is missing) other = absurd (other is)
  unread_memory before now name stop (Failed is rose) other = absurd (other is)
  unread_memory before now name stop (NoMemory is counts) other = NoMemory refl counts

  -- if it stopped for another cause than the shelf, it could stop there for out of memory
  pub stops_memory : (plan : Plan F) (before now : ShelfTold) (stop : F) → Stops shelf memory plan before now stop → (stop ≡ shelf → ⊥)
      → Stops shelf memory plan before now memory
  stops_memory (Finishes says) before now stop (same, is) other = (same, refl)
  stops_memory (Stores name bytes says) before now stop (inl (same, is)) other = inl (same, refl)
  stops_memory (Stores name bytes says) before now stop (inr (is, later, rose, asked, files)) other = absurd (other is)
  stops_memory (Fails fault) before now stop (same, is) other = (same, inl refl)
  stops_memory (Tries holds fault rest) before now stop (inl (same, is)) other = inl (same, inl refl)
  stops_memory (Tries holds fault rest) before now stop (inr (is, later)) other = inr (is, stops_memory rest before now stop later other)
  stops_memory (Gets A is fault rest) before now stop (inl (same, here)) other = inl (same, inl refl)
  stops_memory (Gets A is fault rest) before now stop (inr (a, holds, later)) other = inr (a, holds, stops_memory (rest a) before now stop later other)
  stops_memory (Makes A is rest) before now stop (inl (same, here)) other = inl (same, refl)
  stops_memory (Makes A is rest) before now stop (inr (a, holds, later)) other = inr (a, holds, stops_memory (rest a) before now stop later other)
  stops_memory (Reads name limit long rest) before now stop (inl (same, is)) other = inl (same, refl)
  stops_memory (Reads name limit long rest) before now stop (inr (inl (read, unread))) other = inr (inl (read, unread_memory before now name stop unread other))
  stops_memory (Reads name limit long rest) before now stop (inr (inr (mid, read, counts, inl (longer, later)))) other =
      inr (inr (mid, read, counts, inl (longer, stops_memory long mid now stop later other)))
  stops_memory (Reads name limit long rest) before now stop (inr (inr (mid, read, counts, inr (bytes, file, later)))) other =
      inr (inr (mid, read, counts, inr (bytes, file, stops_memory (rest bytes) mid now stop later other)))

  -- a stop before the shelf leaves the shelf as it was
  pub stops_untouched : (plan : Plan F) (before now : ShelfTold) (stop : F) → (ComesToShelf plan → ⊥) → Stops shelf memory plan before now stop → now ≡ before
  stops_untouched (Finishes says) before now stop none (same, is) = same
  stops_untouched (Stores name bytes says) before now stop none stops = absurd (none tt)
  stops_untouched (Fails fault) before now stop none (same, is) = same
  stops_untouched (Tries holds fault rest) before now stop none (inl (same, is)) = same
  stops_untouched (Tries holds fault rest) before now stop none (inr (is, later)) = stops_untouched rest before now stop (λ comes. none (is, comes)) later
  stops_untouched (Gets A is fault rest) before now stop none (inl (same, here)) = same
  stops_untouched (Gets A is fault rest) before now stop none (inr (a, holds, later)) = stops_untouched (rest a) before now stop (λ comes. none (a, holds, comes)) later
  stops_untouched (Makes A is rest) before now stop none (inl (same, here)) = same
  stops_untouched (Makes A is rest) before now stop none (inr (a, holds, later)) = stops_untouched (rest a) before now stop (λ comes. none (a, holds, comes)) later
  stops_untouched (Reads name limit long rest) before now stop none stops = absurd (none tt)

-- a command that is done with no call on the shelf leaves the shelf as it was
pub does_untouched : {F : Type 0} (plan : Plan F) (before now : ShelfTold) (text : List ℕ) → (ComesToShelf plan → ⊥) → Does plan before now text → now ≡ before
does_untouched (Finishes says) before now text none (same, holds) = same
does_untouched (Stores name bytes says) before now text none done = absurd (none tt)
does_untouched (Fails fault) before now text none done = absurd done
does_untouched (Tries holds fault rest) before now text none (is, done) = does_untouched rest before now text (λ comes. none (is, comes)) done
does_untouched (Gets A is fault rest) before now text none (a, holds, done) = does_untouched (rest a) before now text (λ comes. none (a, holds, comes)) done
does_untouched (Makes A is rest) before now text none (a, holds, done) = does_untouched (rest a) before now text (λ comes. none (a, holds, comes)) done
does_untouched (Reads name limit long rest) before now text none done = absurd (none tt)
