-- What the rests of the lists of a stage say of its entries and of the stage after it.
use Rattle.std.proofs.Common.{◌≡◌, ◌<◌, ◌+◌, ◌*◌, ◌/◌, ◌%◌, ℕ, cond, List, [], length, map, take, drop, set, get_or, sym, ap, subst, ◌∙◌, arith, inl, inr, drop-cons, add-one}
use Rattle.std.specs.List.{sum}
use Rattle.std.proofs.lemmas.Bool.{cases_Bool}
use Rattle.std.proofs.lemmas.List.{get_or-map, get_or_default, length-map, map-set}
use Rattle.std.proofs.lemmas.List.Sums.{sum-map, sum_by_more}
use Rattle.ats_bound.specs.declared.lane.Lane.{Lane}
use Rattle.ats_bound.specs.Cut.{ShownLane, lane_of, missing, names, rest}
use Rattle.ats_bound.specs.Cursors.{IsStage, Stage, lane_on, shown_on}
use Rattle.ats_bound.specs.Inner.Cursors.{AreRests, named_by}
use Rattle.ats_bound.specs.Schedule.{IsOpen, IsWholeLane, WholeLane, shown, whole_lane, whole_lanes}
use Rattle.ats_bound.proofs.Shown.{cut_after, length-shown, open_more, shown-set}

pub stage_size : (stage : Stage) → IsStage stage → length (shown_on stage) ≡ length stage.lanes
stage_size stage is = length-shown stage.lanes stage.cut is.cut.size

pub rests_size : (stage : Stage) (rests : List ℕ) (threshold : ℕ) → AreRests stage rests threshold → length rests ≡ length stage.lanes
rests_size stage rests threshold are = ap length are.each ∙ length-map (shown_on stage) rest ∙ stage_size stage are.stands

-- the rest at a place is that of the list there
pub rest_on : (stage : Stage) (rests : List ℕ) (threshold i : ℕ) (d : ShownLane) → AreRests stage rests threshold → i < length stage.lanes → get_or rests i 0 ≡ rest (get_or (shown_on stage) i d)
rest_on stage rests threshold i d are inside =
    let there : i < length (shown_on stage) = omega (arith, inside, stage_size stage are.stands) in
    ap (λ (rs : List ℕ). get_or rs i 0) are.each ∙ get_or-map rest (shown_on stage) i d 0 there

-- a list that is not whole has a next entry
pub next_inside : (stage : Stage) (i : ℕ) → IsStage stage → i < length stage.lanes → IsOpen stage.lanes stage.cut i → get_or stage.cut i 0 < length (lane_on stage i).entries
next_inside stage i is inside more = open_more stage.lanes stage.cut i (record { coefficient = 0; entries = [] }) is.cut inside more

pub whole_on : (stage : Stage) (i : ℕ) → IsStage stage → i < length stage.lanes → IsWholeLane (lane_on stage i)
whole_on stage i is inside = is.whole.each i (record { coefficient = 0; entries = [] }) inside

-- rests have this sum
pub rests_are : (stage : Stage) (rests : List ℕ) (threshold : ℕ) → IsStage stage → rests ≡ map rest (shown_on stage) → threshold ≡ sum rests → AreRests stage rests threshold
rests_are stage rests threshold stands each is = record {
  stands = stands;
  each = each;
  sum = is ∙ ap sum each ∙ sum-map rest (shown_on stage);
}

-- the stage after one entry more of a list, with its rests
pub rests_after : (stage : Stage) (rests : List ℕ) (threshold i amount threshold_after : ℕ) → AreRests stage rests threshold → i < length stage.lanes → IsOpen stage.lanes stage.cut i
    → amount ≡ rest (lane_of (lane_on stage i).coefficient (lane_on stage i).entries (get_or stage.cut i 0 + 1)) → threshold_after ≡ sum (set rests i amount)
    → AreRests (record { lanes = stage.lanes; cut = set stage.cut i (get_or stage.cut i 0 + 1) }) (set rests i amount) threshold_after
rests_after stage rests threshold i amount threshold_after are inside more is sum_is =
    let lanes : List WholeLane = stage.lanes in
    let cut : List ℕ = stage.cut in
    let next : ℕ = get_or cut i 0 + 1 in
    let after : Stage = record { lanes = lanes; cut = set cut i next } in
    let lane : ShownLane = lane_of (lane_on stage i).coefficient (lane_on stage i).entries next in
    let stands : IsStage stage = are.stands in
    let shown_is : shown lanes (set cut i next) ≡ set (shown lanes cut) i lane = shown-set lanes cut i next (record { coefficient = 0; entries = [] }) inside (omega (arith, inside, stands.cut.size)) in
    rests_are after (set rests i amount) threshold_after (record { whole = stands.whole; cut = cut_after lanes cut i stands.cut inside more })
    (ap (λ (rs : List ℕ). set rs i amount) are.each ∙ ap (set (map rest (shown lanes cut)) i) is ∙ sym (map-set rest (shown lanes cut) i lane) ∙ ap (map rest) (sym shown_is))
    sum_is

-- the list that a call is given, and how many of its entries are shown
pub record IsNextAt (stage : Stage) (i now : ℕ) (lane : Lane) : Type 0 where
  pub count : now ≡ get_or stage.cut i 0
  pub lane_is : whole_lane lane ≡ lane_on stage i
  pub space : now < length lane.entries.now
  pub whole : IsWholeLane (whole_lane lane)

pub next_of : (lanes : List Lane) (counts : List ℕ) (i now : ℕ) (lane : Lane) → IsStage (record { lanes = whole_lanes lanes; cut = counts })
    → i < length (whole_lanes lanes) → IsOpen (whole_lanes lanes) counts i → now ≡ get_or counts i now → lane ≡ get_or lanes i lane
    → IsNextAt (record { lanes = whole_lanes lanes; cut = counts }) i now lane
next_of lanes counts i now lane is inside more now_is lane_is =
    let stage : Stage = record { lanes = whole_lanes lanes; cut = counts } in
    let low : i < length lanes = omega (arith, inside, length-map lanes whole_lane) in
    let count : now ≡ get_or counts i 0 = now_is ∙ get_or_default counts i now 0 (omega (arith, inside, is.cut.size)) in
    let same : lane_on stage i ≡ whole_lane lane = get_or-map whole_lane lanes i lane (record { coefficient = 0; entries = [] }) low ∙ ap whole_lane (sym lane_is) in
    let space : get_or counts i 0 < length (lane_on stage i).entries = next_inside stage i is inside more in
    record {
      count = count;
      lane_is = sym same;
      space = omega (arith, count, space, ap (λ (l : WholeLane). length l.entries) same);
      whole = subst IsWholeLane same (whole_on stage i is inside);
    }

-- ---- the digits that show which lanes name a document

pub named_step : (all : List ShownLane) (doc i : ℕ) (d : ShownLane) → i < length all
    → named_by (drop i all) doc ≡ cond (names doc (get_or all i d)) 1 0 + 2 * named_by (drop (i + 1) all) doc
named_step all doc i d inside = ap (λ (rest : List ShownLane). named_by rest doc) (drop-cons all i d inside) ∙ ap (λ n. cond (names doc (get_or all i d)) 1 0 + 2 * named_by (drop n all) doc) (sym (add-one i))

-- a lane adds its rest if its digit is 0
pub missing_even : (all : List ShownLane) (doc i digits sum amount : ℕ) (d : ShownLane) → i < length all → digits % 2 ≡ 0 → digits ≡ named_by (drop i all) doc
    → sum ≡ missing (take i all) doc → amount ≡ rest (get_or all i d) → sum + amount ≡ missing (take (i + 1) all) doc
missing_even all doc i digits sum amount d inside even digits_are so_far is =
    let lane : ShownLane = get_or all i d in
    let step = sum_by_more (λ (l : ShownLane). cond (names doc l) 0 (rest l)) all i d inside in
    let step_named = named_step all doc i d inside in
    elim (cases_Bool (names doc lane)) [
      | inl here ↦ absurd (omega (arith, rw here at step_named, digits_are, even))
      | inr out ↦ omega (arith, rw out at step, so_far, is)
    ]

-- and nothing if it is 1
pub missing_odd : (all : List ShownLane) (doc i digits sum : ℕ) (d : ShownLane) → i < length all → (digits % 2 ≡ 0 → ⊥) → digits ≡ named_by (drop i all) doc
    → sum ≡ missing (take i all) doc → sum ≡ missing (take (i + 1) all) doc
missing_odd all doc i digits sum d inside odd digits_are so_far =
    let lane : ShownLane = get_or all i d in
    let step = sum_by_more (λ (l : ShownLane). cond (names doc l) 0 (rest l)) all i d inside in
    let step_named = named_step all doc i d inside in
    elim (cases_Bool (names doc lane)) [
      | inl here ↦ omega (arith, rw here at step, so_far)
      | inr out ↦ absurd (odd (omega (arith, rw out at step_named, digits_are)))
    ]

pub digits_after : (all : List ShownLane) (doc i digits : ℕ) (d : ShownLane) → i < length all → digits ≡ named_by (drop i all) doc → digits / 2 ≡ named_by (drop (i + 1) all) doc
digits_after all doc i digits d inside digits_are =
    let step_named = named_step all doc i d inside in
    elim (cases_Bool (names doc (get_or all i d))) [
      | inl here ↦ omega (arith, rw here at step_named, digits_are)
      | inr out ↦ omega (arith, rw out at step_named, digits_are)
    ]
