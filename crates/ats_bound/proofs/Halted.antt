-- What holds where a walk ends.
use Rattle.std.proofs.Common.{◌≡◌, ◌⊎◌, ◌↔◌, ℕ, Bool, List, length, subst, inl, inr}
use Rattle.std.specs.Bool.{IsTrue}
use Rattle.ats_bound.specs.declared.bracket.Bracket.{Bracket}
use Rattle.ats_bound.specs.declared.walk.Walk.{Walk}
use Rattle.ats_bound.specs.Chosen.{IsChosen}
use Rattle.ats_bound.specs.Cut.{threshold}
use Rattle.ats_bound.specs.Cursors.{IsStage}
use Rattle.ats_bound.specs.Floors.{AreWithin, Floors, IsWithinBy}
use Rattle.ats_bound.specs.Inner.Stopped.{IsEnd, IsReached}
use Rattle.ats_bound.specs.Narrow.{AreNarrow}
use Rattle.ats_bound.specs.QuickTest.{TellsSettled}
use Rattle.ats_bound.specs.Schedule.{AreAllShown, AreBracketsBy, Bounding, CanSettleBy, IsFirstCut, WholeLane, shown}
use Rattle.ats_bound.specs.Settled.{ArePicks, IsSettled}
use Rattle.ats_bound.specs.Stopped.{IsStoppedAt}
use Rattle.ats_bound.proofs.Advance.{end_at, stops_nowhere}
use Rattle.ats_bound.proofs.AllShown.{not_all_shown}
use Rattle.ats_bound.proofs.Chain.{chosen_are_picks}
use Rattle.ats_bound.proofs.One.{one_bracketing, risen_are_distinct}
use Rattle.ats_bound.proofs.OneAnswer.{one_chosen}
use Rattle.ats_bound.proofs.Sorted.{chosen_exists}
use Rattle.ats_bound.proofs.Whole.{whole_settled}

-- what a walk reports of the chosen answer is whether any answer is settled
pub told_exactly : (bounds : Bounding) (lanes : List WholeLane) (r : ℕ) (cut : List ℕ) (told : Bool) (brackets : List Bracket)
    → AreBracketsBy bounds (shown lanes cut) brackets → TellsSettled bounds lanes r cut told → IsTrue told ↔ CanSettleBy bounds lanes r cut
told_exactly bounds lanes r cut told brackets of tells = (
  λ yes.
      let chosen = chosen_exists brackets r in
      record {
        brackets = brackets;
        bounded = of;
        answer = chosen.0;
        inside = chosen_are_picks brackets r chosen.0 chosen.1;
        settled = (tells.chosen brackets chosen.0 of chosen.1).0 yes;
      },
  tells.any,
)

-- a walk that stopped where some answer is settled, or where nothing more can score, is at its end
pub settled_there : (bounds : Bounding) (lanes : List WholeLane) (r : ℕ) (cut : List ℕ) (end : Walk) → AreNarrow bounds → IsReached (CanSettleBy bounds lanes r) lanes cut
    → IsStoppedAt bounds lanes r cut end → (CanSettleBy bounds lanes r cut ⊎ (threshold (shown lanes cut) ≡ 0)) → IsEnd bounds lanes r end
settled_there bounds lanes r cut end narrow reached stopped why =
    end_at bounds lanes r cut end reached stopped (elim why [
      | inl can ↦
          let same : can.brackets ≡ end.brackets = one_bracketing bounds (shown lanes cut) can.brackets end.brackets can.bounded stopped.brackets in
          let inside : ArePicks end.brackets can.answer = subst (λ (bs : List Bracket). ArePicks bs can.answer) same can.inside in
          let settled : IsSettled end.brackets can.answer (threshold (shown lanes cut)) r =
          subst (λ (bs : List Bracket). IsSettled bs can.answer (threshold (shown lanes cut)) r) same can.settled in
          stopped.best can.answer inside (rw stopped.threshold settled)
      | inr none ↦ whole_settled bounds lanes r cut end (narrow (shown lanes cut)) stopped none
    ])

-- the answer of a walk that stopped where the rows that are asked for are within the floors is these rows
pub within_there : (bounds : Bounding) (lanes : List WholeLane) (floors : Floors) (cut : List ℕ) (end : Walk)
    → IsStoppedAt bounds lanes (length floors.spans) cut end → IsWithinBy bounds lanes floors cut → AreWithin end.brackets end.picks end.threshold floors
within_there bounds lanes floors cut end stopped is =
    let here : ℕ = threshold (shown lanes cut) in
    let same : is.brackets ≡ end.brackets = one_bracketing bounds (shown lanes cut) is.brackets end.brackets is.bounded stopped.brackets in
    let theirs : IsChosen end.brackets (length floors.spans) is.answer = subst (λ (bs : List Bracket). IsChosen bs (length floors.spans) is.answer) same is.chosen in
    let answer : is.answer ≡ end.picks = one_chosen end.brackets (length floors.spans) is.answer end.picks (risen_are_distinct end.brackets stopped.brackets.rise) theirs stopped.chosen in
    rw stopped.threshold (subst (λ (picks : List ℕ). AreWithin end.brackets picks here floors) answer (subst (λ (bs : List Bracket). AreWithin bs is.answer here floors) same is.within))

-- a walk that did not stop up to the last cut stops nowhere
pub nowhere_after : (Stops : List ℕ → Type 0) (lanes : List WholeLane) (cut : List ℕ) → IsStage (record { lanes = lanes; cut = cut }) → IsReached Stops lanes cut → (Stops cut → ⊥)
    → (Stops cut ⊎ AreAllShown (shown lanes cut)) → (other : List ℕ) → IsFirstCut Stops lanes other → ⊥
nowhere_after Stops lanes cut stands reached cannot why =
    stops_nowhere Stops lanes cut reached cannot (λ i next. elim why [
      | inl stops ↦ cannot stops
      | inr whole ↦ not_all_shown (record { lanes = lanes; cut = cut }) i stands next whole
    ])
