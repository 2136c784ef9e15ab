-- When an answer can be settled at all, and what a walk reports of the chosen one.
use Rattle.std.specs.Prelude.{◌≡◌, ◌⊎◌, ◌↔◌, ◌≤◌, ℕ, Bool, List, leb, count_by, IsTrue}
use Rattle.ats_bound.specs.declared.bracket.Bracket.{Bracket}
use Rattle.ats_bound.specs.Chosen.{IsChosen}
use Rattle.ats_bound.specs.Cut.{threshold}
use Rattle.ats_bound.specs.Schedule.{AreBracketsBy, Bounding, CanSettleBy, WholeLane, shown}
use Rattle.ats_bound.specs.Settled.{IsSettled}

-- the necessary test: the threshold is 0, or at least r brackets have a lower bound of at least the threshold
abbrev pub PassesQuickTest : List Bracket → ℕ → ℕ → Type 0
PassesQuickTest brackets threshold r = (threshold ≡ 0) ⊎ (r ≤ count_by (λ (b : Bracket). leb threshold b.lo) brackets)

-- `told` is whether the chosen answer is settled at a cut; it is true if any answer is settled there
pub record TellsSettled (bounds : Bounding) (lanes : List WholeLane) (r : ℕ) (cut : List ℕ) (told : Bool) : Type 0 where
  pub chosen : (brackets : List Bracket) (picks : List ℕ)
      → AreBracketsBy bounds (shown lanes cut) brackets → IsChosen brackets r picks
      → IsTrue told ↔ IsSettled brackets picks (threshold (shown lanes cut)) r
  pub any : CanSettleBy bounds lanes r cut → IsTrue told
