-- What a cut shows, list by list.
use Rattle.std.proofs.Common.{◌≡◌, ◌≢◌, ◌<◌, ◌≤◌, ◌+◌, ◌-◌, ℕ, zero, suc, List, [], ◌∷◌, length, take, set, replicate, get_or, refl, sym, ap, subst, ◌∙◌, arith, inl, inr, length-take, length-set, get_or-set_same, get_or-set_other}
use Rattle.std.specs.List.{All, sum_by}
use Rattle.std.proofs.lemmas.Bool.{cases_order}
use Rattle.std.proofs.lemmas.List.{get_or-map, length-map}
use Rattle.std.proofs.lemmas.List.Sums.{sum_by-set}
use Rattle.ats_postings.specs.declared.entry.Entry.{Entry}
use Rattle.ats_bound.specs.declared.lane.Lane.{Lane}
use Rattle.ats_bound.specs.Cut.{ShownLane, lane_of, rest}
use Rattle.ats_bound.specs.Schedule.{AreWholeLanes, IsCut, IsOpen, IsScheduled, IsWholeLane, WholeLane, first_cut, shown, whole_lane, whole_lanes}

pub length-shown : (lanes : List WholeLane) (cut : List ℕ) → length cut ≡ length lanes → length (shown lanes cut) ≡ length lanes
length-shown [] cut same = refl
length-shown (lane ∷ lanes) [] same = absurd (omega (arith, same))
length-shown (lane ∷ lanes) (count ∷ cut) same = ap suc (length-shown lanes cut (omega (arith, same)))

-- the lane that is shown at a place
pub get_or-shown : (lanes : List WholeLane) (cut : List ℕ) (i : ℕ) (d : ShownLane) (e : WholeLane) → i < length lanes → i < length cut
    → get_or (shown lanes cut) i d ≡ lane_of (get_or lanes i e).coefficient (get_or lanes i e).entries (get_or cut i 0)
get_or-shown [] cut i d e low also = absurd (omega arith)
get_or-shown (lane ∷ lanes) [] i d e low also = absurd (omega arith)
get_or-shown (lane ∷ lanes) (count ∷ cut) zero d e low also = refl
get_or-shown (lane ∷ lanes) (count ∷ cut) (suc i) d e low also = get_or-shown lanes cut i d e (omega arith) (omega arith)

-- the same for lanes that are passed to a call
pub at_lane : (lanes : List Lane) (cut : List ℕ) (i : ℕ) (d : ShownLane) (e : Lane) → i < length lanes → i < length cut
    → get_or (shown (whole_lanes lanes) cut) i d ≡ lane_of (get_or lanes i e).coefficient (get_or lanes i e).entries.now (get_or cut i 0)
at_lane [] cut i d e low also = absurd (omega arith)
at_lane (lane ∷ lanes) [] i d e low also = absurd (omega arith)
at_lane (lane ∷ lanes) (count ∷ cut) zero d e low also = refl
at_lane (lane ∷ lanes) (count ∷ cut) (suc i) d e low also = at_lane lanes cut i d e (omega arith) (omega arith)

pub whole_at : (lanes : List Lane) (i : ℕ) (e : Lane) → AreWholeLanes (whole_lanes lanes) → i < length lanes → IsWholeLane (whole_lane (get_or lanes i e))
whole_at lanes i e whole low =
    let size : length (whole_lanes lanes) ≡ length lanes = length-map lanes whole_lane in
    rw (get_or-map whole_lane lanes i e (whole_lane e) low) at (whole.each i (whole_lane e) (omega (arith, size, low)))

pub count_at : (lanes : List Lane) (cut : List ℕ) (i : ℕ) (e : Lane) → IsCut (whole_lanes lanes) cut → i < length lanes
    → (1 ≤ get_or cut i 0) × (get_or cut i 0 ≤ length (get_or lanes i e).entries.now)
count_at lanes cut i e is low =
    let size : length (whole_lanes lanes) ≡ length lanes = length-map lanes whole_lane in
    rw (get_or-map whole_lane lanes i e (whole_lane e) low) at (is.each i (whole_lane e) (omega (arith, size, low)))

-- a cut has a count for each lane
pub cut_size : (lanes : List Lane) (cut : List ℕ) → IsCut (whole_lanes lanes) cut → length cut ≡ length lanes
cut_size lanes cut is = is.size ∙ length-map lanes whole_lane

pub shown_size : (lanes : List Lane) (cut : List ℕ) → IsCut (whole_lanes lanes) cut → length (shown (whole_lanes lanes) cut) ≡ length lanes
shown_size lanes cut is = length-shown (whole_lanes lanes) cut is.size ∙ length-map lanes whole_lane

abbrev pub HasEntry : WholeLane → Type 0
HasEntry lane = 1 ≤ length lane.entries

pub have_entries : (lanes : List WholeLane) → AreWholeLanes lanes → All HasEntry lanes
have_entries lanes whole i d inside = (whole.each i d inside).some

-- the first cut of lists that have entries is one
pub first_is_cut : (lanes : List WholeLane) → All HasEntry lanes → IsCut lanes (first_cut lanes)
first_is_cut lanes some =
    let one : WholeLane → ℕ = λ (lane : WholeLane). 1 in
    record {
      size = length-map lanes one;
      each = λ i d low.
          let is : get_or (first_cut lanes) i 0 ≡ 1 = get_or-map one lanes i d 0 low in
          (omega (arith, is), omega (arith, is, some i d low));
    }

-- a list that is not whole has an entry after those that are shown
pub open_more : (lanes : List WholeLane) (cut : List ℕ) (i : ℕ) (e : WholeLane) → IsCut lanes cut → i < length lanes → IsOpen lanes cut i
    → get_or cut i 0 < length (get_or lanes i e).entries
open_more lanes cut i e is low more =
    let low_cut : i < length cut = omega (arith, is.size) in
    let entries : List Entry = (get_or lanes i e).entries in
    let here = get_or-shown lanes cut i (record { coefficient = 0; total = 0; shown = [] }) e low low_cut in
    let less : length (take (get_or cut i 0) entries) < length entries = rw here at more in
    omega (arith, less, length-take (get_or cut i 0) entries)

-- one entry more of such a list makes a cut again
pub cut_after : (lanes : List WholeLane) (cut : List ℕ) (i : ℕ) → IsCut lanes cut → i < length lanes → IsOpen lanes cut i
    → IsCut lanes (set cut i (get_or cut i 0 + 1))
cut_after lanes cut i is low more =
    let next : ℕ = get_or cut i 0 + 1 in
    let low_cut : i < length cut = omega (arith, is.size) in
    record {
      size = length-set cut i next ∙ is.size;
      each = λ j d inside. elim (cases_order j i) [
        | inl same ↦
            let there : get_or (set cut i next) j 0 ≡ next = ap (λ k. get_or (set cut i next) k 0) same ∙ get_or-set_same cut i next 0 low_cut in
            let space : get_or cut i 0 < length (get_or lanes i d).entries = open_more lanes cut i d is low more in
            let space_there : get_or cut i 0 < length (get_or lanes j d).entries = rw same space in
            (omega (arith, there), omega (arith, there, space_there))
        | inr other ↦
            let differ : j ≢ i = λ e. elim other [ inl less ↦ omega (arith, e, less) | inr greater ↦ omega (arith, e, greater) ] in
            let there : get_or (set cut i next) j 0 ≡ get_or cut j 0 = get_or-set_other cut i j next 0 differ in
            let before : (1 ≤ get_or cut j 0) × (get_or cut j 0 ≤ length (get_or lanes j d).entries) = is.each j d inside in
            (omega (arith, there, before.0), omega (arith, there, before.1))
      ];
    }

-- so is each cut of the schedule
pub scheduled_is_cut : (lanes : List WholeLane) (n : ℕ) (cut : List ℕ) → All HasEntry lanes → IsScheduled lanes n cut → IsCut lanes cut
scheduled_is_cut lanes zero cut some is = subst (IsCut lanes) (sym is) (first_is_cut lanes some)
scheduled_is_cut lanes (suc n) cut some is =
    let turn = is.2 in
    subst (IsCut lanes) (sym turn.counts) (cut_after lanes is.0 turn.place (scheduled_is_cut lanes n is.0 some is.1) turn.next.inside turn.next.more)

-- one count more changes one lane
pub shown-set : (lanes : List WholeLane) (cut : List ℕ) (i v : ℕ) (e : WholeLane) → i < length lanes → i < length cut
    → shown lanes (set cut i v) ≡ set (shown lanes cut) i (lane_of (get_or lanes i e).coefficient (get_or lanes i e).entries v)
shown-set [] cut i v e low also = absurd (omega arith)
shown-set (lane ∷ lanes) [] i v e low also = absurd (omega arith)
shown-set (lane ∷ lanes) (count ∷ cut) zero v e low also = refl
shown-set (lane ∷ lanes) (count ∷ cut) (suc i) v e low also =
    ap (λ rest. lane_of lane.coefficient lane.entries count ∷ rest) (shown-set lanes cut i v e (omega arith) (omega arith))

-- how many entries of a lane are not shown
abbrev pub hidden : ShownLane → ℕ
hidden lane = lane.total - length lane.shown

-- each turn leaves fewer entries that are not shown
pub fewer_hidden : (lanes : List WholeLane) (cut : List ℕ) (i : ℕ) → IsCut lanes cut → i < length lanes → IsOpen lanes cut i
    → sum_by hidden (shown lanes (set cut i (get_or cut i 0 + 1))) < sum_by hidden (shown lanes cut)
fewer_hidden lanes cut i is low more =
    let e : WholeLane = record { coefficient = 0; entries = [] } in
    let d : ShownLane = record { coefficient = 0; total = 0; shown = [] } in
    let k : ℕ = get_or cut i 0 in
    let lane : WholeLane = get_or lanes i e in
    let low_cut : i < length cut = omega (arith, is.size) in
    let low_shown : i < length (shown lanes cut) = omega (arith, length-shown lanes cut is.size) in
    let after : ShownLane = lane_of lane.coefficient lane.entries (k + 1) in
    let here : get_or (shown lanes cut) i d ≡ lane_of lane.coefficient lane.entries k = get_or-shown lanes cut i d e low low_cut in
    let changed : sum_by hidden (set (shown lanes cut) i after) + hidden (get_or (shown lanes cut) i d) ≡ sum_by hidden (shown lanes cut) + hidden after = sum_by-set hidden (shown lanes cut) i after d low_shown in
    let before : hidden (get_or (shown lanes cut) i d) ≡ length lane.entries - length (take k lane.entries) = ap hidden here in
    let space : k < length lane.entries = open_more lanes cut i e is low more in
    rw (shown-set lanes cut i (k + 1) e low low_cut)
    (omega (arith, changed, before, space, length-take k lane.entries, length-take (k + 1) lane.entries))

-- one for each lane
pub ones : (lanes : List Lane) → replicate (length lanes) 1 ≡ first_cut (whole_lanes lanes)
ones [] = refl
ones (lane ∷ lanes) = ap (λ rest. 1 ∷ rest) (ones lanes)

abbrev pub no_lane : Lane
no_lane = record { coefficient = 0; entries = record { ref_ptr = (0, 0); now = [] } }

abbrev pub no_shown : ShownLane
no_shown = record { coefficient = 0; total = 0; shown = [] }

-- the rest of the lane that is shown at a place
pub rest_here : (lanes : List Lane) (cut : List ℕ) (i amount : ℕ) (d : ShownLane) → IsCut (whole_lanes lanes) cut → i < length lanes
    → amount ≡ rest (lane_of (get_or lanes i no_lane).coefficient (get_or lanes i no_lane).entries.now (get_or cut i 0)) → amount ≡ rest (get_or (shown (whole_lanes lanes) cut) i d)
rest_here lanes cut i amount d is low amount_is =
    amount_is ∙ sym (ap rest (at_lane lanes cut i d no_lane low (omega (arith, low, cut_size lanes cut is))))
