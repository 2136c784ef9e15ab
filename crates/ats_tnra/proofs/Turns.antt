-- The end of a walk with no random access.
use Rattle.std.proofs.Common.{◌≡◌, ◌↔◌, ℕ, Bool, List, refl, subst, inl, inr}
use Rattle.std.specs.Bool.{IsTrue}
use Rattle.std.specs.Prelude.{Option}
use Rattle.ats_bound.specs.declared.walk.Walk.{Walk}
use Rattle.ats_bound.specs.Cut.{bracket}
use Rattle.ats_bound.specs.Cursors.{IsStage}
use Rattle.ats_bound.specs.Floors.{Floors}
use Rattle.ats_bound.specs.QuickTest.{TellsSettled}
use Rattle.ats_bound.specs.Running.{Standing}
use Rattle.ats_bound.specs.Schedule.{AreWholeLanes, CanSettleBy, IsFirstCut, WholeLane, shown}
use Rattle.ats_bound.specs.Stopped.{IsStoppedAt}
use Rattle.ats_bound.proofs.Public.{brackets_exist, have_entries, nowhere_after, scheduled_is_cut, told_exactly}
use Rattle.ats_tnra.specs.Inner.Ends.{EndsAt, HasRun}

-- a reached cut is a cut
pub is_stage : (lanes : List WholeLane) (top : Option ℕ) (floors : Floors) (walk : Standing) → AreWholeLanes lanes → HasRun lanes top floors walk → IsStage (record { lanes = lanes; cut = walk.cut })
is_stage lanes top floors walk whole run = record {
  whole = whole;
  cut = scheduled_is_cut lanes run.reached.turns walk.cut (have_entries lanes whole) run.reached.scheduled;
}

-- what a walk reports of the chosen answer is whether any answer is settled
pub told_any : (lanes : List WholeLane) (r : ℕ) (cut : List ℕ) (told : Bool) → TellsSettled bracket lanes r cut told → IsTrue told ↔ CanSettleBy bracket lanes r cut
told_any lanes r cut told tells =
    let made = brackets_exist bracket (shown lanes cut) (λ doc. refl) in
    told_exactly bracket lanes r cut told made.0 made.1 tells

-- a walk that ends at no cut up to the last ends nowhere
pub ends_nowhere : (lanes : List WholeLane) (top : Option ℕ) (floors : Floors) (walk : Standing) → AreWholeLanes lanes → HasRun lanes top floors walk → (EndsAt lanes top floors walk.cut → ⊥)
    → (other : List ℕ) → IsFirstCut (EndsAt lanes top floors) lanes other → ⊥
ends_nowhere lanes top floors walk whole run cannot =
    nowhere_after (EndsAt lanes top floors) lanes walk.cut (is_stage lanes top floors walk whole run) run.reached cannot (elim run.ended [ inl ends ↦ inl ends | inr last ↦ inr last.1 ])

-- the state of the walk, for the lists and the number of rows that it was given
pub stopped_of : (lanes : List WholeLane) (r : ℕ) (walk : Standing) (end : Walk) → walk.lanes ≡ lanes → walk.rows ≡ r → IsStoppedAt bracket walk.lanes walk.rows walk.cut end
    → IsStoppedAt bracket lanes r walk.cut end
stopped_of lanes r walk end same rows stopped =
    subst (λ (n : ℕ). IsStoppedAt bracket lanes n walk.cut end) rows (subst (λ (ls : List WholeLane). IsStoppedAt bracket ls walk.rows walk.cut end) same stopped)
