-- What went over a link between two moments, and in how many calls.
use Rattle.std.specs.Prelude.{◌≡◌, ◌≤◌, ◌+◌, ℕ, Bool, true, false, List, length}
use Rattle.ats_base.specs.Outside.{Rose}
use Rattle.ats_base.specs.Links.{LinkTold, Exchanged}

-- no call failed; or the last call did, and no other
abbrev pub FailsOnce : (broken : Bool) → (before now : LinkTold) → Type 0
FailsOnce false before now = now.faults ≡ before.faults
FailsOnce true before now = Rose before.faults now.faults × (now.last_failed ≡ true)

-- If the link reports, these bytes were read and these written. At most `idle` calls moved no byte. If a call failed, it
-- is the last one.
pub record Moves (before now : LinkTold) (read written : List ℕ) (idle : ℕ) (broken : Bool) : Type 0 where
  pub over : Exchanged before.traffic now.traffic read written
  pub turns : now.calls ≤ before.calls + (length read + length written + idle)
  pub faults : FailsOnce broken before now
