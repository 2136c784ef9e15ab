-- One more entry of a list, and the first entry of each, keep what is known.
use Rattle.std.proofs.Common.{◌≡◌, ◌<◌, ◌≤◌, ◌+◌, ◌*◌, ◌^◌, ℕ, zero, suc, false, List, [], ◌∷◌, length, set, get_or, refl, sym, ap, ap₂, subst, ◌∙◌, arith, inl, inr, length-set, add-one}
use Rattle.std.specs.List.{list_any}
use Rattle.std.proofs.Math.Nat.{pow-le-pow_right, pow-succ'}
use Rattle.std.proofs.lemmas.Bool.{cases_Bool}
use Rattle.std.proofs.lemmas.List.{get_or-map, length-map}
use Rattle.ats_postings.specs.declared.entry.Entry.{Entry}
use Rattle.ats_bound.specs.declared.met_documents.Met.{Met}
use Rattle.ats_bound.specs.declared.lane.Lane.{Lane}
use Rattle.ats_bound.specs.Cut.{ShownLane, names}
use Rattle.ats_bound.specs.Cursors.{IsStage, Stage, entry_on, lane_on, shown_on}
use Rattle.ats_bound.specs.Inner.Cursors.{named_by}
use Rattle.ats_bound.specs.Inner.MetDocuments.{AreMetDocuments, IsKnown, Meets, met_at}
use Rattle.ats_bound.specs.Schedule.{AreWholeLanes, IsOpen, IsWholeLane, WholeLane, first_cut, shown, whole_lane, whole_lanes, most_gain}
use Rattle.ats_bound.proofs.Entered.{Enters, entered}
use Rattle.ats_bound.proofs.MetAfter.{known_after}
use Rattle.ats_bound.proofs.Shown.{cut_after, length-shown, no_lane}
use Rattle.ats_bound.proofs.Stages.{next_inside, whole_on}

named_below : (all : List ShownLane) (doc : ℕ) → named_by all doc < 2 ^ length all
named_below [] doc = omega arith
named_below (lane ∷ all) doc = elim (cases_Bool (names doc lane)) [
  | inl here ↦ rw here (omega (arith, named_below all doc, pow-succ' 2 (length all)))
  | inr out ↦ rw out (omega (arith, named_below all doc, pow-succ' 2 (length all)))
]

power_some : (i : ℕ) → 1 ≤ 2 ^ i
power_some zero = omega arith
power_some (suc i) = omega (arith, power_some i, pow-succ' 2 i)

module _ (lanes : List WholeLane) (cut : List ℕ) (i : ℕ) (few : length lanes ≤ 32) (whole : IsWholeLane (lane_on (record { lanes = lanes; cut = cut }) i)) (inside : i < length lanes)
    (size : length cut ≡ length lanes) (space : get_or cut i 0 < length (lane_on (record { lanes = lanes; cut = cut }) i).entries)
    (met : List Met) (known : AreMetDocuments (shown lanes cut) met) (doc gain digit : ℕ) (doc_is : doc ≡ (entry_on (record { lanes = lanes; cut = cut }) i).doc)
    (gain_is : gain ≡ (lane_on (record { lanes = lanes; cut = cut }) i).coefficient * (entry_on (record { lanes = lanes; cut = cut }) i).impact)
    (little : gain ≤ most_gain) (digit_is : digit ≡ 2 ^ i) where
  abbrev after : List ShownLane
  after = shown lanes (set cut i (get_or cut i 0 + 1))

  enters : Enters (shown lanes cut) after doc gain digit
  enters = rw (doc_is, gain_is, digit_is) (entered lanes cut i whole inside size space)

  -- the sums fit their types
  pub step_space : (slot : ℕ) → slot < length met → (met_at met slot).doc ≡ doc → ((met_at met slot).lo + gain < 2 ^ 64) × ((met_at met slot).named + digit < 2 ^ 32)
  step_space slot low same =
      let is : IsKnown (shown lanes cut) (met_at met slot) = known.each slot low in
      let named : (met_at met slot).named + digit ≡ named_by after doc = ap (λ n. n + digit) is.named ∙ ap (λ n. named_by (shown lanes cut) n + digit) same ∙ sym enters.named in
      let all : length after ≡ length lanes = length-shown lanes (set cut i (get_or cut i 0 + 1)) (length-set cut i (get_or cut i 0 + 1) ∙ size) in
      let below : named_by after doc < 2 ^ length lanes = subst (λ n. named_by after doc < 2 ^ n) all (named_below after doc) in
      let most : 2 ^ length lanes ≤ 2 ^ 32 = pow-le-pow_right {n = 2} (omega arith) few in
      let some : 1 ≤ digit = omega (arith, digit_is, power_some i) in
      (omega (arith, is.few, named, below, most, little, some), omega (arith, named, below, most))

  pub step_known : (later : List Met) → Meets met later doc gain digit → AreMetDocuments after later
  step_known later meets = known_after (shown lanes cut) after met doc gain digit known enters little (omega (arith, digit_is, power_some i)) later meets

-- ---- the first entry of each list

-- one entry of the first lists, and none of the others
abbrev pub begun_cut : List WholeLane → ℕ → List ℕ
begun_cut [] i = []
begun_cut (lane ∷ lanes) zero = 0 ∷ begun_cut lanes zero
begun_cut (lane ∷ lanes) (suc i) = 1 ∷ begun_cut lanes i

pub begun_size : (lanes : List WholeLane) (i : ℕ) → length (begun_cut lanes i) ≡ length lanes
begun_size [] i = refl
begun_size (lane ∷ lanes) zero = ap suc (begun_size lanes zero)
begun_size (lane ∷ lanes) (suc i) = ap suc (begun_size lanes i)

pub begun_here : (lanes : List WholeLane) (i : ℕ) → get_or (begun_cut lanes i) i 0 ≡ 0
begun_here [] zero = refl
begun_here [] (suc i) = refl
begun_here (lane ∷ lanes) zero = refl
begun_here (lane ∷ lanes) (suc i) = begun_here lanes i

pub begun_next : (lanes : List WholeLane) (i : ℕ) → i < length lanes → set (begun_cut lanes i) i 1 ≡ begun_cut lanes (suc i)
begun_next [] i inside = absurd (omega (arith, inside))
begun_next (lane ∷ lanes) zero inside = refl
begun_next (lane ∷ lanes) (suc i) inside = ap (λ rest. 1 ∷ rest) (begun_next lanes i (omega (arith, inside)))

pub begun_all : (lanes : List WholeLane) → begun_cut lanes (length lanes) ≡ first_cut lanes
begun_all [] = refl
begun_all (lane ∷ lanes) = ap (λ rest. 1 ∷ rest) (begun_all lanes)

none_shown : (lanes : List WholeLane) (doc : ℕ) → list_any (names doc) (shown lanes (begun_cut lanes 0)) ≡ false
none_shown [] doc = refl
none_shown (lane ∷ lanes) doc = none_shown lanes doc

pub begun_none : (lanes : List WholeLane) → AreMetDocuments (shown lanes (begun_cut lanes 0)) []
begun_none lanes = record {
  once = λ i j less inside same. omega (arith, inside);
  named = λ doc. sym (none_shown lanes doc);
  each = λ slot inside. absurd (omega (arith, inside));
}

module _ (lanes : List Lane) (i : ℕ) (whole : AreWholeLanes (whole_lanes lanes)) (low : i < length lanes) (met : List Met)
    (known : AreMetDocuments (shown (whole_lanes lanes) (begun_cut (whole_lanes lanes) i)) met) (doc gain digit : ℕ)
    (doc_is : doc ≡ (get_or (get_or lanes i no_lane).entries.now 0 (record { doc = 0; impact = 0 })).doc)
    (gain_is : gain ≡ (get_or lanes i no_lane).coefficient * (get_or (get_or lanes i no_lane).entries.now 0 (record { doc = 0; impact = 0 })).impact)
    (little : gain ≤ most_gain) (digit_is : digit ≡ 2 ^ i) where
  abbrev wholes : List WholeLane
  wholes = whole_lanes lanes

  abbrev begun : List ℕ
  begun = begun_cut wholes i

  abbrev first_stage : Stage
  first_stage = record { lanes = wholes; cut = begun }

  inside_wholes : i < length wholes
  inside_wholes = omega (arith, low, length-map lanes whole_lane)

  whole_there : IsWholeLane (lane_on first_stage i)
  whole_there = whole.each i (record { coefficient = 0; entries = [] }) inside_wholes

  lane_there : lane_on first_stage i ≡ whole_lane (get_or lanes i no_lane)
  lane_there = get_or-map whole_lane lanes i no_lane (record { coefficient = 0; entries = [] }) low

  entry_there : entry_on first_stage i ≡ get_or (get_or lanes i no_lane).entries.now 0 (record { doc = 0; impact = 0 })
  entry_there =
      ap (λ (l : WholeLane). get_or l.entries (get_or begun i 0) (record { doc = 0; impact = 0 })) lane_there
      ∙ ap (λ k. get_or (get_or lanes i no_lane).entries.now k (record { doc = 0; impact = 0 })) (begun_here wholes i)

  space_there : get_or begun i 0 < length (lane_on first_stage i).entries
  space_there = omega (arith, begun_here wholes i, whole_there.some)

  doc_there : doc ≡ (entry_on first_stage i).doc
  doc_there = doc_is ∙ sym (ap (λ (e : Entry). e.doc) entry_there)

  gain_there : gain ≡ (lane_on first_stage i).coefficient * (entry_on first_stage i).impact
  gain_there = gain_is ∙ sym (ap₂ (λ c n. c * n) (ap (λ (l : WholeLane). l.coefficient) lane_there) (ap (λ (e : Entry). e.impact) entry_there))

  pub first_space : (slot : ℕ) → slot < length met → (met_at met slot).doc ≡ doc → ((met_at met slot).lo + gain < 2 ^ 64) × ((met_at met slot).named + digit < 2 ^ 32)
  first_space = step_space wholes begun i whole.few whole_there inside_wholes (begun_size wholes i) space_there met known doc gain digit doc_there gain_there little digit_is

  pub first_known : (later : List Met) → Meets met later doc gain digit → AreMetDocuments (shown wholes (begun_cut wholes (i + 1))) later
  first_known later meets =
      let next : set begun i (get_or begun i 0 + 1) ≡ begun_cut wholes (i + 1) =
      ap (λ k. set begun i (k + 1)) (begun_here wholes i) ∙ begun_next wholes i inside_wholes ∙ ap (begun_cut wholes) (sym (add-one i)) in
      subst (λ (cut : List ℕ). AreMetDocuments (shown wholes cut) later) next
      (step_known wholes begun i whole.few whole_there inside_wholes (begun_size wholes i) space_there met known doc gain digit doc_there gain_there little digit_is later meets)

-- ---- one entry more

module _ (stage : Stage) (i : ℕ) (is : IsStage stage) (inside : i < length stage.lanes) (more : IsOpen stage.lanes stage.cut i) (met : List Met) (known : AreMetDocuments (shown_on stage) met)
    (doc gain digit : ℕ) (doc_is : doc ≡ (entry_on stage i).doc) (gain_is : gain ≡ (lane_on stage i).coefficient * (entry_on stage i).impact) (little : gain ≤ most_gain)
    (digit_is : digit ≡ 2 ^ i) where
  pub next_space : (slot : ℕ) → slot < length met → (met_at met slot).doc ≡ doc → ((met_at met slot).lo + gain < 2 ^ 64) × ((met_at met slot).named + digit < 2 ^ 32)
  next_space = step_space stage.lanes stage.cut i is.whole.few (whole_on stage i is inside) inside is.cut.size (next_inside stage i is inside more) met known doc gain digit doc_is gain_is little digit_is

  pub next_known : (later : List Met) (after : Stage) → after.lanes ≡ stage.lanes → after.cut ≡ set stage.cut i (get_or stage.cut i 0 + 1) → Meets met later doc gain digit
      → AreMetDocuments (shown_on after) later
  next_known later after same cut_is meets =
      rw (same, cut_is)
      (step_known stage.lanes stage.cut i is.whole.few (whole_on stage i is inside) inside is.cut.size (next_inside stage i is inside more) met known doc gain digit doc_is gain_is little digit_is later meets)

pub next_stage : (stage : Stage) (i : ℕ) (after : Stage) → IsStage stage → i < length stage.lanes → IsOpen stage.lanes stage.cut i → after.lanes ≡ stage.lanes
    → after.cut ≡ set stage.cut i (get_or stage.cut i 0 + 1) → IsStage after
next_stage stage i after is inside more same cut_is = record {
  whole = rw same is.whole;
  cut = rw (same, cut_is) (cut_after stage.lanes stage.cut i is.cut inside more);
}
