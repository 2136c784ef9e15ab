-- Which lists are whole at a cut: all of them exactly where no list comes next.
use Rattle.std.proofs.Common.{◌≡◌, ◌<◌, ◌≤◌, ◌-◌, ℕ, false, nat_eq, cond, List, length, map, take, get_or, ap, subst, ◌∙◌, arith, inl, inr, length-take, sym, []}
use Rattle.std.proofs.Math.Nat.{le-mul_of_pos_right}
use Rattle.std.proofs.lemmas.Bool.{cases_lt}
use Rattle.std.proofs.lemmas.Bool.Decides.{nat_tests}
use Rattle.std.proofs.lemmas.List.{get_or-map, get_or-take}
use Rattle.ats_postings.specs.declared.entry.Entry.{Entry}
use Rattle.ats_bound.specs.Cut.{ShownLane, lane_of, rest, rest_impact}
use Rattle.ats_bound.specs.Cursors.{IsStage, Stage, shown_on}
use Rattle.ats_bound.specs.Schedule.{AreAllShown, IsNextLane, IsWholeLane, WholeLane}
use Rattle.ats_bound.proofs.Greatest.{IsGreatest}
use Rattle.ats_bound.proofs.Shown.{get_or-shown}
use Rattle.ats_bound.proofs.Stages.{stage_size}

-- a list of which something is not shown has a rest
module _ (lane : WholeLane) (k : ℕ) (whole : IsWholeLane lane) (some : 1 ≤ k) (more : k < length lane.entries) where
  abbrev none : Entry
  none = record { doc = 0; impact = 0 }

  abbrev cut : ShownLane
  cut = lane_of lane.coefficient lane.entries k

  size : length (take k lane.entries) ≡ k
  size = omega (arith, length-take k lane.entries)

  impact : rest_impact cut ≡ (get_or lane.entries (k - 1) none).impact
  impact =
      let shown : List Entry = take k lane.entries in
      let no : nat_eq (length shown) (length lane.entries) ≡ false = grind (arith, nat_tests, size) in
      let low : length shown - 1 < length shown = omega (arith, size, some) in
      ap (λ b. cond b 0 (get_or (map (λ (e : Entry). e.impact) shown) (length shown - 1) 0)) no
      ∙ get_or-map (λ (e : Entry). e.impact) shown (length shown - 1) none 0 low
      ∙ ap (λ i. (get_or shown (i - 1) none).impact) size
      ∙ ap (λ (e : Entry). e.impact) (get_or-take k lane.entries (k - 1) none (omega (arith, some)))

  pub has_rest : 0 < rest cut
  has_rest =
      let shown : 1 ≤ rest_impact cut = omega (arith, impact, whole.impacts (k - 1) none (omega (arith, some, more))) in
      omega (arith, le-mul_of_pos_right lane.coefficient shown, whole.weighted.0)

-- where the greatest rest is 0, all lists are whole
pub all_shown : (stage : Stage) (place : ℕ) → IsStage stage → IsGreatest (shown_on stage) (length (shown_on stage)) place 0 → AreAllShown (shown_on stage)
all_shown stage place is all i d inside =
    let e : WholeLane = record { coefficient = 0; entries = [] } in
    let low : i < length stage.lanes = omega (arith, inside, stage_size stage is) in
    let lane : WholeLane = get_or stage.lanes i e in
    let k : ℕ = get_or stage.cut i 0 in
    let here : get_or (shown_on stage) i d ≡ lane_of lane.coefficient lane.entries k =
    get_or-shown stage.lanes stage.cut i d e low (omega (arith, low, is.cut.size)) in
    let Whole : ShownLane → Type 0 = λ l. length l.shown ≡ l.total in
    subst Whole (sym here) (elim (cases_lt k (length lane.entries)) [
      | inl more ↦ absurd (omega (arith, has_rest lane k (is.whole.each i e low) (is.cut.each i e low).0 more, ap rest here, all.most i d inside))
      | inr most ↦ omega (arith, length-take k lane.entries, (is.cut.each i e low).1)
    ])

-- where a list comes next, one is not whole
pub not_all_shown : (stage : Stage) (i : ℕ) → IsStage stage → IsNextLane stage.lanes stage.cut i → AreAllShown (shown_on stage) → ⊥
not_all_shown stage i is next all =
    let d : ShownLane = record { coefficient = 0; total = 0; shown = [] } in
    let inside : i < length (shown_on stage) = omega (arith, next.inside, stage_size stage is) in
    omega (arith, all i d inside, next.more)
