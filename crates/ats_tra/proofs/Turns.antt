-- The turns of a walk with known scores, and its end.
use Rattle.std.proofs.Common.{◌≡◌, ◌↔◌, ℕ, Bool, List, length, sym, subst, inl, inr}
use Rattle.std.specs.Bool.{IsTrue}
use Rattle.std.proofs.lemmas.List.{length-replicate}
use Rattle.ats_bound.specs.declared.bracket.Bracket.{Bracket}
use Rattle.ats_bound.specs.declared.share.Share.{Share}
use Rattle.ats_bound.specs.declared.walk.Walk.{Walk}
use Rattle.ats_bound.specs.Chosen.{IsChosen}
use Rattle.ats_bound.specs.Cut.{threshold}
use Rattle.ats_bound.specs.Cursors.{IsStage, Stage, shown_on}
use Rattle.ats_bound.specs.Floors.{AreWithin, Floors, IsFirstWithinBy, IsWithinBy, floors_of_share}
use Rattle.ats_bound.specs.Inner.Stopped.{IsEnd}
use Rattle.ats_bound.specs.Lookup.{Table, looked_up}
use Rattle.ats_bound.specs.Narrow.{AreNarrow}
use Rattle.ats_bound.specs.Schedule.{AreBracketsBy, Bounding, WholeLane, shown}
use Rattle.ats_bound.specs.Scored.{ScoredStanding, exactly}
use Rattle.ats_bound.specs.Settled.{ArePicks, IsSettled}
use Rattle.ats_bound.specs.Stopped.{IsStoppedAt}
use Rattle.ats_bound.proofs.Public.{first_here, nowhere_after, settled_there, within_there}
use Rattle.ats_tra.specs.declared.walking.End.{End}
use Rattle.ats_tra.specs.declared.walking.End.TheVariants.{Settled, Within}
use Rattle.ats_tra.specs.Inner.Ends.{EndsAt, HasRun}
use Rattle.ats_tra.specs.Inner.Looked.{score_by}
use Rattle.ats_tra.proofs.Exact.{scores_are_looked}

-- the brackets of a stage are looked up
pub looked_there : (table : Table) (lanes : List WholeLane) (stage : Stage) (brackets : List Bracket) → stage.lanes ≡ lanes → IsStage stage
    → AreBracketsBy (exactly (score_by table lanes)) (shown_on stage) brackets → AreBracketsBy (looked_up table) (shown lanes stage.cut) brackets
looked_there table lanes stage brackets same is known =
    let Here : List WholeLane → Type 0 = λ ls. AreBracketsBy (exactly (score_by table lanes)) (shown ls stage.cut) brackets in
    let size : length stage.cut ≡ length lanes = subst (λ (ls : List WholeLane). length stage.cut ≡ length ls) same is.cut.size in
    scores_are_looked table lanes stage.cut brackets size (subst Here same known)

-- what the test of an end reports of a stage holds of the lists that it is about
pub test_there : (bounds : Bounding) (lanes : List WholeLane) (end : End) (walk : ScoredStanding) (told : Bool) → walk.stage.lanes ≡ lanes
    → ((bs : Bounding) → AreBracketsBy bs (shown_on walk.stage) walk.brackets → IsTrue told ↔ EndsAt bs walk.stage.lanes end walk.stage.cut)
    → AreBracketsBy bounds (shown lanes walk.stage.cut) walk.brackets → IsTrue told ↔ EndsAt bounds lanes end walk.stage.cut
test_there bounds lanes end walk told same tells of =
    let cut : List ℕ = walk.stage.cut in
    let there : AreBracketsBy bounds (shown_on walk.stage) walk.brackets = subst (λ (ls : List WholeLane). AreBracketsBy bounds (shown ls cut) walk.brackets) (sym same) of in
    subst (λ (ls : List WholeLane). IsTrue told ↔ EndsAt bounds ls end cut) same (tells bounds there)

-- the end of the walk
pub finished : (bounds : Bounding) (lanes : List WholeLane) (r : ℕ) (walk : ScoredStanding) (end : Walk) → walk.stage.lanes ≡ lanes → walk.rows ≡ r
    → end.cut ≡ walk.stage.cut → end.brackets ≡ walk.brackets → end.threshold ≡ threshold (shown_on walk.stage) → IsChosen end.brackets walk.rows end.picks
    → ArePicks end.brackets end.picks
    → ((answer : List ℕ) → ArePicks end.brackets answer → IsSettled end.brackets answer end.threshold walk.rows → IsSettled end.brackets end.picks end.threshold walk.rows)
    → AreBracketsBy bounds (shown lanes walk.stage.cut) walk.brackets → IsStoppedAt bounds lanes r walk.stage.cut end
finished bounds lanes r walk end same rows cut brackets limit chosen inside best of =
    subst (λ (n : ℕ). IsStoppedAt bounds lanes n walk.stage.cut end) rows (record {
      cut = cut;
      brackets = subst (λ (bs : List Bracket). AreBracketsBy bounds (shown lanes walk.stage.cut) bs) (sym brackets) of;
      threshold = subst (λ (ls : List WholeLane). end.threshold ≡ threshold (shown ls walk.stage.cut)) same limit;
      chosen = chosen;
      inside = inside;
      best = best;
    })

-- the end at a settled answer
pub settled_end : (bounds : Bounding) (lanes : List WholeLane) (r : ℕ) (walk : ScoredStanding) (end : Walk) → AreNarrow bounds → HasRun bounds lanes (Settled r) walk
    → IsStoppedAt bounds lanes r walk.stage.cut end → IsEnd bounds lanes r end
settled_end bounds lanes r walk end narrow run stopped =
    settled_there bounds lanes r walk.stage.cut end narrow run.reached stopped (elim run.ended [ inl can ↦ inl can | inr last ↦ inr last.0 ])

-- the end at a share that is shown
module _ (bounds : Bounding) (lanes : List WholeLane) (share : Share) (walk : ScoredStanding) (run : HasRun bounds lanes (Within share) walk) where
  abbrev floors : Floors
  floors = floors_of_share share

  pub first_shown : IsWithinBy bounds lanes floors walk.stage.cut → IsFirstWithinBy bounds lanes floors walk.stage.cut
  first_shown is = first_here (IsWithinBy bounds lanes floors) lanes walk.stage.cut run.reached is

  pub rows_shown : (end : Walk) → IsStoppedAt bounds lanes share.rows walk.stage.cut end → IsWithinBy bounds lanes floors walk.stage.cut
      → AreWithin end.brackets end.picks end.threshold floors
  rows_shown end stopped is =
      let size : length floors.spans ≡ share.rows = length-replicate share.rows (record { lower = share.floor; upper = 0xffff_ffff_ffff_ffff }) in
      within_there bounds lanes floors walk.stage.cut end (subst (λ (n : ℕ). IsStoppedAt bounds lanes n walk.stage.cut end) (sym size) stopped) is

  pub never_shown : (IsWithinBy bounds lanes floors walk.stage.cut → ⊥) → (cut : List ℕ) → IsFirstWithinBy bounds lanes floors cut → ⊥
  never_shown cannot =
      let stands : IsStage (record { lanes = lanes; cut = walk.stage.cut }) = subst (λ (ls : List WholeLane). IsStage (record { lanes = ls; cut = walk.stage.cut })) run.lanes_are run.stands in
      nowhere_after (IsWithinBy bounds lanes floors) lanes walk.stage.cut stands run.reached cannot (elim run.ended [ inl is ↦ inl is | inr last ↦ inr last.1 ])
