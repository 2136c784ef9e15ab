-- A shard's exact brackets are within the floors of its share of the plain ranking.
use Rattle.std.proofs.Common.{◌≡◌, ◌<◌, ◌≤◌, ◌+◌, ◌-◌, ◌++◌, ◌∙◌, ◌^◌, ℕ, suc, Bool, min, true, nat_lt, List, [], ◌∷◌, length, map, take, drop, get_or, ap, sym, refl, subst, inl, inr, arith, length-append, length-take, get_or-take, get_or-drop, take-append-drop, nat_eq}
use Rattle.std.specs.List.{All, Contains, filter, range_with_len}
use Rattle.std.specs.List.Sorted.{IsStrictlySortedBy}
use Rattle.std.proofs.lemmas.Bool.{cases_Bool, cases_lt, lt-ltb}
use Rattle.std.proofs.lemmas.List.{get_or-map, get_or_append_left, get_or-append_right, get_or_default, length-map, length-drop}
use Rattle.std.proofs.lemmas.List.Elements.{All-filter, filter-append}
use Rattle.std.proofs.lemmas.List.FromFn.{get_or-range_with_len, length-range_with_len}
use Rattle.std.proofs.lemmas.List.Kept.{IsStrictlySortedBy-filter}
use Rattle.std.proofs.lemmas.List.Sorted.{Contains-permutation}
use Rattle.ats_impact.specs.Rank.{times}
use Rattle.ats_bound.specs.declared.bracket.Bracket.{Bracket}
use Rattle.ats_bound.specs.Chosen.{IsChosen}
use Rattle.ats_bound.specs.declared.span.Span.{Span}
use Rattle.ats_bound.specs.Floors.{AreWithin, Floors, IsInSpan, span_at}
use Rattle.ats_bound.specs.Settled.{IsOutside, bracket_at, row}
use Rattle.ats_bound.proofs.Public.{chosen_are_picks, stands}
use Rattle.ats_proof.specs.declared.record.Algorithm.{Algorithm}
use Rattle.ats_catalog_honest.specs.Ranking.{IsRankedBy, IsScored, Ranked, edge, ranked_at, ranked_cmp, shares_of}
use Rattle.ats_catalog_honest.specs.Shares.{floors_of, rows_from, span_of}
use Rattle.ats_catalog_honest.proofs.Above.{front_all, front_same, is_above, none}
use Rattle.ats_catalog_honest.proofs.Edges.{in_span, last_least, on_floor, rows_are}
use Rattle.ats_catalog_honest.proofs.Exact.{AreExact}
use Rattle.ats_catalog_honest.proofs.Listed.{AreListed, are_listed, is_own, row_of}
use Rattle.ats_catalog_honest.proofs.Shared.{places}
use Rattle.ats_catalog_honest.proofs.Sorted.{filter_all}

abbrev owner_of : Ranked → ℕ
owner_of one = one.shard

-- the places of a shard's rows have the shard's part of the ranking
rows_part : (shard j : ℕ) (xs : List Ranked) (at : ℕ → Ranked) → ((k : ℕ) → k < length xs → at (j + k) ≡ get_or xs k none)
    → map at (rows_from shard j (map owner_of xs)) ≡ filter (is_own shard) xs
rows_part shard j [] at same = refl
rows_part shard j (x ∷ xs) at same =
    let here : at j ≡ x = ap at (omega arith) ∙ same 0 (omega arith) in
    let later : map at (rows_from shard (j + 1) (map owner_of xs)) ≡ filter (is_own shard) xs =
    rows_part shard (j + 1) xs at (λ k low. ap at (omega arith) ∙ same (suc k) (omega (arith, low))) in
    elim (cases_Bool (nat_eq x.shard shard)) [
      | inl is ↦ rw is (ap (λ (one : Ranked). one ∷ map at (rows_from shard (j + 1) (map owner_of xs))) here ∙ ap (λ (l : List Ranked). x ∷ l) later)
      | inr not ↦ rw not later
    ]

module _ (size : ℕ → ℕ) (score_of : ℕ → ℕ → ℕ) (all : List Ranked) (ranked : IsRankedBy size score_of all) (shard : ℕ)
    (unmet : ℕ) (brackets : List Bracket) (exact : AreExact (size shard) (score_of shard) unmet brackets)
    (rows : ℕ) (picks : List ℕ) (chosen : IsChosen brackets rows picks)
    (by : ℕ → Algorithm) (r : ℕ) (fit : (j : ℕ) → (ranked_at all j).score < 2 ^ 64) (many : rows ≡ length (floors_of (shares_of by r all) shard).spans) where
  abbrev at : ℕ → Ranked
  at = row_of shard brackets

  abbrev n : ℕ
  n = length brackets

  abbrev part : List Ranked
  part = filter (is_own shard) all

  abbrev order : List ℕ
  order = chosen.all

  abbrev listed : List Ranked
  listed = map at order

  places_listed : AreListed shard unmet part brackets order
  places_listed = are_listed size score_of all ranked shard unmet brackets exact rows picks chosen

  listed_at : (k : ℕ) → k < n → get_or listed k none ≡ at (get_or order k 0)
  listed_at k low = get_or-map at order k 0 none (omega (arith, low, places_listed.size))

  listed_size : length listed ≡ n
  listed_size = length-map order at ∙ places_listed.size

  part_rises : IsStrictlySortedBy ranked_cmp part
  part_rises = IsStrictlySortedBy-filter ranked_cmp (is_own shard) all ranked.ordered

  abbrev floors : Floors
  floors = floors_of (shares_of by r all) shard

  abbrev own_rows : List ℕ
  own_rows = rows_from shard 0 (map owner_of (take r all))

  abbrev front : List Ranked
  front = filter (is_own shard) (take r all)

  abbrev over : List Ranked
  over = filter (is_own shard) (drop r all)

  front_is : map (ranked_at all) own_rows ≡ front
  front_is = rows_part shard 0 (take r all) (ranked_at all) (λ k low.
      let same : 0 + k ≡ k = omega arith in
      ap (ranked_at all) same ∙ sym (get_or-take r all k none (omega (arith, low, length-take r all))))

  own_size : length own_rows ≡ length front
  own_size = sym (length-map own_rows (ranked_at all)) ∙ ap (λ (l : List Ranked). length l) front_is

  rows_size : rows ≡ length front
  rows_size = many ∙ length-map own_rows (span_of (edge by r all)) ∙ own_size

  part_is : part ≡ front ++ over
  part_is = ap (filter (is_own shard)) (sym (take-append-drop r all)) ∙ filter-append (is_own shard) (take r all) (drop r all)

  -- row k of the shard is that of the ranking at its place
  part_at : (k : ℕ) → k < rows → get_or part k none ≡ ranked_at all (get_or own_rows k 0)
  part_at k low =
      ap (λ (l : List Ranked). get_or l k none) part_is ∙ get_or_append_left front over none k (omega (arith, low, rows_size)) ∙ ap (λ (l : List Ranked). get_or l k none) (sym front_is)
      ∙ get_or-map (ranked_at all) own_rows k 0 none (omega (arith, low, rows_size, own_size))

  place_low : (k : ℕ) → k < rows → get_or own_rows k 0 < min r (length all)
  place_low k low =
      let place = places shard 0 (map owner_of (take r all)) k 0 (omega (arith, low, rows_size, own_size)) in
      omega (arith, place.high, rows_are by r all ranked.ordered)

  pick_at : (k : ℕ) → k < rows → get_or picks k 0 ≡ get_or order k 0
  pick_at k low = ap (λ (l : List ℕ). get_or l k 0) chosen.first ∙ get_or-take rows order k 0 low

  pick_is : (k : ℕ) → k < length picks → (k < rows) × (at (get_or picks k 0) ≡ get_or listed k none)
  pick_is k low =
      let size = ap (λ (l : List ℕ). length l) chosen.first ∙ length-take rows order in
      let inside : k < rows = omega (arith, low, size) in
      (inside, ap at (pick_at k inside) ∙ sym (listed_at k (omega (arith, low, size, places_listed.size))))

  span_is : (k : ℕ) → k < rows → span_at floors.spans k ≡ span_of (edge by r all) (get_or own_rows k 0)
  span_is k low = get_or-map (span_of (edge by r all)) own_rows k 0 (record { lower = 0; upper = 0 }) (omega (arith, low, rows_size, own_size))

  pub span_floor : (k : ℕ) → k < rows → floors.floor ≤ (span_at floors.spans k).lower
  span_floor k low = omega (arith, last_least by r all ranked.ordered (get_or own_rows k 0) (place_low k low), ap (λ (s : Span). s.lower) (span_is k low))

  -- a row that scores as the shard's row of the ranking is in its span
  in_its_span : (k : ℕ) → k < length picks → (get_or listed k none).score ≡ (get_or part k none).score → IsInSpan (span_at floors.spans k) (row brackets picks k)
  in_its_span k low same =
      let is = pick_is k low in
      let p : ℕ = get_or own_rows k 0 in
      let lo : (row brackets picks k).lo ≡ (ranked_at all p).score = ap (λ (one : Ranked). one.score) is.1 ∙ same ∙ ap (λ (one : Ranked). one.score) (part_at k is.0) in
      let even : (row brackets picks k).hi ≡ (row brackets picks k).lo = (exact.each (get_or picks k 0) (chosen_are_picks brackets rows picks chosen k 0 low)).even in
      let within = in_span by r all ranked.ordered fit p (omega (arith, place_low k is.0)) in
      subst (λ (s : Span). IsInSpan s (row brackets picks k)) (sym (span_is k is.0)) (record { least = omega (arith, within.0, lo); most = omega (arith, within.1, lo, even) })

  -- ---- all of them, if each document that scores has a bracket

  module _ (whole : unmet ≡ 0) where
    listed_is : listed ≡ part
    listed_is =
        let positive : (one : Ranked) → 0 < one.score → nat_lt 0 one.score ≡ true = λ one some. lt-ltb 0 one.score some in
        sym (filter_all (λ (one : Ranked). nat_lt 0 one.score) listed (λ k d low.
        let inside : k < n = omega (arith, low, listed_size) in
        let is : get_or listed k d ≡ at (get_or order k 0) = get_or_default listed k d none low ∙ listed_at k inside in
        positive (get_or listed k d) (omega (arith, ap (λ (one : Ranked). one.score) is, (exact.each (get_or order k 0) (places_listed.low k 0 (omega (arith, inside, places_listed.size)))).some))))
        ∙ places_listed.same 0 (omega (arith, whole))
        ∙ filter_all (λ (one : Ranked). nat_lt 0 one.score) part (λ k d low. positive (get_or part k d) (All-filter (is_own shard) (IsScored size score_of) all ranked.each k d low).some)

    both : listed ≡ front ++ over
    both = listed_is ∙ part_is

    total : n ≡ length front + length over
    total = sym listed_size ∙ ap (λ (l : List Ranked). length l) both ∙ length-append front over

    picks_size : length picks ≡ rows
    picks_size = ap (λ (l : List ℕ). length l) chosen.first ∙ length-take rows order ∙ omega (arith, places_listed.size, total, rows_size)

    over_low : All (λ (one : Ranked). one.score ≤ floors.floor) over
    over_low = All-filter (is_own shard) (λ (one : Ranked). one.score ≤ floors.floor) (drop r all) (λ k d low.
        let inside : r + k < length all = omega (arith, low, length-drop r all) in
        let is : get_or (drop r all) k d ≡ ranked_at all (r + k) = get_or_default (drop r all) k d none low ∙ get_or-drop r all k none in
        omega (arith, ap (λ (one : Ranked). one.score) is, on_floor by r all ranked.ordered fit (r + k) (omega arith) inside))

    others : (i : ℕ) → IsOutside brackets picks i → (bracket_at brackets i).hi ≤ floors.floor
    others i out =
        let found : Contains order i = Contains-permutation (range_with_len 0 n) order i chosen.same
        (i, omega (arith, out.0, length-range_with_len 0 n), omega (arith, get_or-range_with_len 0 n i i out.0)) in
        let k : ℕ = found.0 in
        let is : get_or order k 0 ≡ i = get_or_default order k 0 i found.1 ∙ found.2 in
        let low : k < n = omega (arith, found.1, places_listed.size) in
        elim (cases_lt k rows) [
          | inl early ↦
              let again = stands picks k (omega (arith, early, picks_size)) in
              absurd (omega (arith, subst (λ (m : ℕ). 1 ≤ times m picks) (pick_at k early ∙ is) again, out.1))
          | inr late ↦
              let place : at i ≡ get_or over (k - length front) none =
              ap at (sym is) ∙ sym (listed_at k low) ∙ ap (λ (l : List Ranked). get_or l k none) both
              ∙ get_or-append_right front over (length front) k none refl (omega (arith, late, rows_size)) in
              let under = over_low (k - length front) none (omega (arith, late, rows_size, low, total)) in
              omega (arith, ap (λ (one : Ranked). one.score) place, under, (exact.each i out.0).even)
        ]

    pub reached : AreWithin brackets picks 0 floors
    reached = record {
      many = picks_size ∙ many;
      rows = λ k low. in_its_span k low (ap (λ (l : List Ranked). (get_or l k none).score) listed_is);
      others = others;
      unmet = omega arith;
    }

  -- ---- by scores only

  -- the first rows score as the shard's own, if none is below the floor and nothing else is above it
  module _ (few : unmet ≤ floors.floor) (size_is : length picks ≡ rows) (least : (k : ℕ) → k < length picks → floors.floor ≤ (row brackets picks k).lo) where
    abbrev above_floor : Ranked → Bool
    above_floor = is_above floors.floor

    same_front : filter above_floor listed ≡ filter above_floor part
    same_front = places_listed.same floors.floor few

    front_size : length (filter above_floor listed) ≡ length (filter above_floor part)
    front_size = ap (λ (l : List Ranked). length l) same_front

    one_above : (k : ℕ) → k < length (filter above_floor listed) → get_or listed k none ≡ get_or part k none
    one_above k low =
        sym (front_same floors.floor listed places_listed.rise k low) ∙ ap (λ (l : List Ranked). get_or l k none) same_front
        ∙ front_same floors.floor part part_rises k (omega (arith, low, front_size))

    own_least : (k : ℕ) → k < rows → floors.floor ≤ (get_or part k none).score
    own_least k low =
        let p : ℕ = get_or own_rows k 0 in
        let high = place_low k low in
        omega (arith, ap (λ (one : Ranked). one.score) (part_at k low), (in_span by r all ranked.ordered fit p (omega (arith, high))).0, last_least by r all ranked.ordered p (omega (arith, high)))

    own_size_is : (k : ℕ) → k < rows → k < length part
    own_size_is k low = omega (arith, low, rows_size, ap (λ (l : List Ranked). length l) part_is, length-append front over)

    same_score : (k : ℕ) → k < length picks → (get_or listed k none).score ≡ (get_or part k none).score
    same_score k low =
        let is = pick_is k low in
        let listed_low : k < length listed = omega (arith, low, size_is, listed_size, places_listed.size, ap (λ (l : List ℕ). length l) chosen.first ∙ length-take rows order) in
        let over_floor : floors.floor ≤ (get_or listed k none).score = omega (arith, least k low, ap (λ (one : Ranked). one.score) is.1) in
        elim (cases_lt floors.floor (get_or listed k none).score) [
          | inl more ↦ ap (λ (one : Ranked). one.score) (one_above k (front_all floors.floor listed places_listed.rise k listed_low more))
          | inr level ↦ elim (cases_lt floors.floor (get_or part k none).score) [
            | inl more ↦
                let there = front_all floors.floor part part_rises k (own_size_is k is.0) more in
                ap (λ (one : Ranked). one.score) (one_above k (omega (arith, there, front_size)))
            | inr also ↦ omega (arith, level, also, over_floor, own_least k is.0)
          ]
        ]

    pub rows_in_spans : (k : ℕ) → k < length picks → IsInSpan (span_at floors.spans k) (row brackets picks k)
    rows_in_spans k low = in_its_span k low (same_score k low)
