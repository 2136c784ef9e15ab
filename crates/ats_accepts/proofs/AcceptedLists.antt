-- What a check sees of the lists of a proof of a cut: that cut, which it accepts.
use Rattle.std.proofs.Common.{◌≡◌, ◌≢◌, ◌+◌, ◌*◌, ◌<◌, ◌≤◌, ℕ, suc, true, nat_eq, List, [], ◌∷◌, length, map, take, get_or, Some, refl, sym, ap, ap₂, subst, ◌∙◌, arith, inl, inr}
use Rattle.std.specs.List.{All, list_any, range_with_len}
use Rattle.std.specs.List.Sorted.{IsStrictlyIncreasing}
use Rattle.std.proofs.lemmas.Bool.{cases_order, eq-eqb, or_left, or_right}
use Rattle.std.proofs.lemmas.List.{length-map, length-take-le, get_or-map, get_or-take}
use Rattle.std.proofs.lemmas.List.Elements.{All-cons, All-head, All-nil, All-tail}
use Rattle.std.proofs.lemmas.List.Folds.{list_any_at}
use Rattle.ats_impact.specs.Numbers.{idf}
use Rattle.ats_impact.specs.Rank.{times}
use Rattle.ats_tree.specs.Shown.{Shown}
use Rattle.ats_tree.specs.Elided.{shown_with}
use Rattle.ats_lists.specs.Formats.{list_root, prefix_digests, prefix_root}
use Rattle.ats_lists.specs.Leaf.{leaf_bytes}
use Rattle.ats_postings.specs.Lists.{IsList, list}
use Rattle.ats_postings.specs.declared.entry.Entry.{Entry}
use Rattle.ats_postings.proofs.Public.{list_frequency}
use Rattle.ats_lists.proofs.Public.{front-rebuilds}
use Rattle.ats_dict.specs.declared.spot.Spot.{Spot}
use Rattle.ats_dict.specs.declared.spot.Spot.TheVariants.{At, Between}
use Rattle.ats_commit.specs.Archive.{Archive}
use Rattle.ats_commit.specs.Ours.{asked_term}
use Rattle.ats_commit.specs.Trees.{dictionary_of}
use Rattle.ats_bound.specs.Cut.{ShownLane, lane_of as shown_lane, names}
use Rattle.ats_bound.specs.Settled.{AreDistinct}
use Rattle.ats_bound.specs.Schedule.{WholeLane, IsCut, shown}
use Rattle.ats_bound.proofs.Public.{position_of, times_other, times_same}
use Rattle.ats_proof.specs.Value.{Prefix}
use Rattle.ats_proof.specs.Runs.{named, shown_list}
use Rattle.ats_client.specs.Groups.{IsListRight, indexes_of, list_digest}
use Rattle.ats_client.specs.Indexes.{AreNames}
use Rattle.ats_client.specs.Presented.{Presented, presented_from}
use Rattle.ats_client.specs.Presented as client
use Rattle.ats_honest.specs.Terms.{AreSpots, place, shown_entry, slot_of}
use Rattle.ats_honest.specs.Lanes.{lane_of, lanes_of}
use Rattle.ats_honest.specs.Honest.{placed, prefix_of, prefixes}
use Rattle.ats_honest.proofs.Public.{HasList, with_lane, with_none}
use Rattle.ats_accepts.proofs.Asking.{Asks, asks_first, asks_later}
use Rattle.ats_accepts.proofs.AcceptedSlots.{AreShown, shown_first, shown_rest}
use Rattle.ats_accepts.proofs.ShownPlaces.{IsAtPlace}
use Rattle.ats_accepts.proofs.AcceptedTerms.{IsOwnEntry, honest_entry, honest_present}

-- ---- the rest of a cut

tail_cut : (lane : WholeLane) (lanes : List WholeLane) (count : ℕ) (cut : List ℕ) → IsCut (lane ∷ lanes) (count ∷ cut) → IsCut lanes cut
tail_cut lane lanes count cut is = record {
  size = omega (arith, is.size);
  each = λ i d inside. is.each (suc i) d (omega (arith, inside));
}

-- ---- places among the met documents

-- each document that a shown entry names is at its place among the met ids
abbrev pub AreIn : List ℕ → List ShownLane → Type 0
AreIn met lanes = (doc : ℕ) → list_any (names doc) lanes ≡ true → IsAtPlace met doc

abbrev pub IsEntryIn : List ℕ → Entry → Type 0
IsEntryIn met entry = IsAtPlace met entry.doc

first_in : (met : List ℕ) (lane : ShownLane) (lanes : List ShownLane) → AreIn met (lane ∷ lanes) → All (IsEntryIn met) lane.shown
first_in met lane lanes are k d inside =
    let doc = (get_or lane.shown k d).doc in
    are doc (or_left (names doc lane) (list_any (names doc) lanes) (list_any_at (λ (e : Entry). nat_eq e.doc doc) lane.shown k d inside (eq-eqb doc doc refl)))

later_in : (met : List ℕ) (lane : ShownLane) (lanes : List ShownLane) → AreIn met (lane ∷ lanes) → AreIn met lanes
later_in met lane lanes are doc is = are doc (or_right (names doc lane) (list_any (names doc) lanes) is)

-- an entry is named again by its place
entry_back : (met : List ℕ) (e : Entry) → IsEntryIn met e → named met (placed met e) ≡ e
entry_back met e is = ap (λ (doc : ℕ). let x : Entry = record { doc = doc; impact = e.impact } in x) is.there

entries_back : (met : List ℕ) (es : List Entry) → All (IsEntryIn met) es → map (named met) (map (placed met) es) ≡ es
entries_back met [] are = refl
entries_back met (e ∷ es) are =
    ap₂ (λ x xs. x ∷ xs) (entry_back met e (All-head (IsEntryIn met) e es are)) (entries_back met es (All-tail (IsEntryIn met) e es are))

-- numbers that differ from one another occur once
differing_once : (xs : List ℕ) → ((i j : ℕ) → i < j → j < length xs → get_or xs i 0 ≢ get_or xs j 0) → AreDistinct xs
differing_once [] differ n = omega arith
differing_once (x ∷ xs) differ n =
    let rest = differing_once xs (λ i j less inside. differ (suc i) (suc j) (omega (arith, less)) (omega (arith, inside))) n in
    elim (cases_order x n) [
      | inl is ↦ elim (cases_order (times n xs) 0) [
        | inl none ↦ omega (arith, times_same n x xs is, none)
        | inr other ↦
            let some : 1 ≤ times n xs = elim other [ inl less ↦ absurd (omega (arith, less)) | inr more ↦ omega (arith, more) ] in
            let found = position_of n xs some in
            absurd (differ 0 (suc found.0) (omega arith) (omega (arith, found.1)) (is ∙ sym found.2))
      ]
      | inr other ↦ omega (arith, times_other n x xs other, rest)
    ]

-- the places that a front names are those of distinct documents
front_names : (n : ℕ) (met : List ℕ) (entries : List Entry) (count : ℕ) → IsList n entries → count ≤ length entries → All (IsEntryIn met) (take count entries)
    → AreNames (length met) (indexes_of (map (placed met) (take count entries)))
front_names n met entries count own within are =
    let es : List Entry = take count entries in
    let put : Entry → ℕ = λ e. place met e.doc in
    let many : length es ≡ count = length-take-le count entries within in
    let one : length (map (placed met) es) ≡ length es = length-map es (placed met) in
    let all : length (indexes_of (map (placed met) es)) ≡ length es = length-map (map (placed met) es) (λ (e : Entry). e.doc) ∙ one in
    let none : Entry = record { doc = 0; impact = 0 } in
    let at : (i d : ℕ) → i < length es → get_or (indexes_of (map (placed met) es)) i d ≡ put (get_or es i none) = λ i d inside.
    get_or-map (λ (e : Entry). e.doc) (map (placed met) es) i none d (omega (arith, inside, one))
    ∙ ap (λ (e : Entry). e.doc) (get_or-map (placed met) es i none none inside) in
    record {
      inside = λ i d inside.
          let low : i < length es = omega (arith, inside, all) in
          omega (arith, at i d low, (are i none low).within);
      once = differing_once (indexes_of (map (placed met) es)) (λ i j less inside same.
          let low : j < length es = omega (arith, inside, all) in
          let also : i < length es = omega (arith, less, low) in
          let places : put (get_or es i none) ≡ put (get_or es j none) = sym (at i 0 also) ∙ same ∙ at j 0 low in
          let docs : (get_or es i none).doc ≡ (get_or es j none).doc = sym (are i none also).there ∙ ap (λ (k : ℕ). get_or met k 0) places ∙ (are j none low).there in
          let first : get_or es i none ≡ get_or entries i none = get_or-take count entries i none (omega (arith, also, many)) in
          let second : get_or es j none ≡ get_or entries j none = get_or-take count entries j none (omega (arith, low, many)) in
          own.once i j none less (omega (arith, low, many, within)) (ap (λ (e : Entry). e.doc) (sym first) ∙ docs ∙ ap (λ (e : Entry). e.doc) second));
    }

-- entries by their places among the met ids show the leaves of their list
shown_from : (met : List ℕ) (leaves : List (List ℕ)) (at : ℕ) (es : List Entry) → All (IsEntryIn met) es
    → ((i : ℕ) (d : Entry) → i < length es → get_or leaves (at + i) [] ≡ leaf_bytes (get_or es i d))
    → shown_list at met (map (placed met) es) ≡ map (λ (p : ℕ). let s : Shown = (p, get_or leaves p []) in s) (range_with_len at (length es))
shown_from met leaves at [] are same = refl
shown_from met leaves at (e ∷ es) are same =
    let none : at + 0 ≡ at = omega arith in
    let here : leaf_bytes (named met (placed met e)) ≡ get_or leaves at [] =
    ap leaf_bytes (entry_back met e (All-head (IsEntryIn met) e es are)) ∙ sym (same 0 e (omega arith)) ∙ ap (λ (i : ℕ). get_or leaves i []) none in
    ap₂ (λ (x : Shown) (xs : List Shown). x ∷ xs) (ap (λ (bytes : List ℕ). let s : Shown = (at, bytes) in s) here)
    (shown_from met leaves (at + 1) es (All-tail (IsEntryIn met) e es are) (λ i d inside.
    let next : (at + 1) + i ≡ at + suc i = omega arith in
    ap (λ (k : ℕ). get_or leaves k []) next ∙ same (suc i) d (omega (arith, inside))))

-- ---- the fronts that a proof shows

-- a present term of the query `asked` shows the front of a lane, which has the list of the term; and its entry in the
-- dictionary has the lane's length and root
pub record IsFront (H : List ℕ → List ℕ) (archive : Archive) (asked : List (List ℕ × ℕ)) (met : List ℕ) (lane : WholeLane) (count : ℕ) (term : Presented) : Type 0 where
  pub own : lane.entries ≡ list archive.texts (asked_term asked term.number)
  pub weighs : term.weight * idf (length archive.texts) term.entry.f ≡ lane.coefficient
  pub size : term.entry.f ≡ length lane.entries
  pub root : term.entry.root ≡ list_root H archive.format lane.entries
  pub front : term.prefix ≡ prefix_of H archive.format met lane.entries count

-- the present terms show the fronts of the lanes, as many entries as the cut says
abbrev pub AreFronts : (List ℕ → List ℕ) → Archive → List (List ℕ × ℕ) → List ℕ → List WholeLane → List ℕ → List Presented → Type 0
AreFronts H archive asked met [] cut [] = Unit {0}
AreFronts H archive asked met [] cut (term ∷ terms) = ⊥
AreFronts H archive asked met (lane ∷ lanes) [] terms = ⊥
AreFronts H archive asked met (lane ∷ lanes) (count ∷ cut) [] = ⊥
AreFronts H archive asked met (lane ∷ lanes) (count ∷ cut) (term ∷ terms) = IsFront H archive asked met lane count term × AreFronts H archive asked met lanes cut terms

module _ (H : List ℕ → List ℕ) (archive : Archive) (asked : List (List ℕ × ℕ)) (met : List ℕ) where
  -- ---- what a proof shows of the terms

  module _ (positions : List ℕ) where
    -- the present terms from a number on show the fronts of these lanes
    abbrev Show : ℕ → List (List ℕ × ℕ) → List Spot → List WholeLane → Type 0
    Show number query spots lanes = (cut : List ℕ) → length cut ≡ length lanes
        → AreFronts H archive asked met lanes cut
        (presented_from (map (shown_entry (dictionary_of H archive)) positions) number query (map (slot_of positions) spots) (prefixes H archive.format met lanes cut))

    show_none : (number : ℕ) → Show number [] [] []
    show_none number [] same = tt
    show_none number (count ∷ cut) same = absurd (omega (arith, same))

    -- a present term more
    show_one : (number p : ℕ) (pair : List ℕ × ℕ) (query : List (List ℕ × ℕ)) (spots : List Spot) (lanes : List WholeLane) → asked_term asked number ≡ pair.0
        → IsOwnEntry H archive pair.0 (client.entry_at (map (shown_entry (dictionary_of H archive)) positions) (place positions p))
        → Show (number + 1) query spots lanes → Show number (pair ∷ query) (At p ∷ spots) (lane_of archive.texts pair ∷ lanes)
    show_one number p pair query spots lanes asks entry rest [] same = absurd (omega (arith, same))
    show_one number p pair query spots lanes asks entry rest (count ∷ cut) same = (
      record {
        own = ap (list archive.texts) (sym asks);
        weighs = ap (λ (f : ℕ). pair.1 * idf (length archive.texts) f) (entry.number ∙ list_frequency archive.texts pair.0);
        size = entry.number;
        root = entry.root;
        front = refl;
      },
      rest cut (omega (arith, same)),
    )

    pub show_terms : (number : ℕ) (query : List (List ℕ × ℕ)) (spots : List Spot) → Asks (asked_term asked) number query
        → IsStrictlyIncreasing positions → AreSpots (dictionary_of H archive) query spots → AreShown spots positions → Show number query spots (lanes_of archive.texts query)
    show_terms number [] [] asks rise found are = show_none number
    show_terms number [] (spot ∷ spots) asks rise found are = absurd found
    show_terms number (pair ∷ query) [] asks rise found are = absurd found
    show_terms number (pair ∷ query) (At p ∷ spots) asks rise found are =
        let entry = honest_entry H archive positions pair.0 (At p) rise (shown_first (At p) spots positions are) found.0 refl in
        subst (Show number (pair ∷ query) (At p ∷ spots)) (sym (with_lane archive.texts pair query (honest_present H archive positions pair (At p) found.0)))
        (show_one number p pair query spots (lanes_of archive.texts query) (asks_first (asked_term asked) number pair query asks) entry
        (show_terms (number + 1) query spots (asks_later (asked_term asked) number pair query asks) rise found.1 (shown_rest (At p) spots positions are)))
    show_terms number (pair ∷ query) (Between p ∷ spots) asks rise found are =
        subst (Show number (pair ∷ query) (Between p ∷ spots)) (sym (with_none archive.texts pair query (honest_present H archive positions pair (Between p) found.0)))
        (show_terms (number + 1) query spots (asks_later (asked_term asked) number pair query asks) rise found.1 (shown_rest (Between p) spots positions are))

  -- ---- one front

  module _ (lane : WholeLane) (count : ℕ) (term : Presented) (is : IsFront H archive asked met lane count term) where
    front_lane : All (IsEntryIn met) (take count lane.entries) → client.lane_of (length archive.texts) met term ≡ shown_lane lane.coefficient lane.entries count
    front_lane are =
        let entries = ap (λ (p : Prefix). map (named met) p.entries) is.front ∙ entries_back met (take count lane.entries) are in
        ap (λ (c : ℕ). let l : ShownLane = record { coefficient = c; total = term.entry.f; shown = map (named met) term.prefix.entries } in l) is.weighs
        ∙ ap₂ (λ (n : ℕ) (es : List Entry). let l : ShownLane = record { coefficient = lane.coefficient; total = n; shown = es } in l) is.size entries

    -- its leaves are the first of the list
    pub front_shown : count ≤ length lane.entries → All (IsEntryIn met) (take count lane.entries)
        → shown_list 0 met term.prefix.entries ≡ shown_with (map leaf_bytes lane.entries) (range_with_len 0 count)
    front_shown within are =
        let es : List Entry = take count lane.entries in
        let leaves : List (List ℕ) = map leaf_bytes lane.entries in
        let many : length es ≡ count = length-take-le count lane.entries within in
        ap (λ (p : Prefix). shown_list 0 met p.entries) is.front
        ∙ shown_from met leaves 0 es are (λ i d inside.
        let low : i < count = omega (arith, inside, many) in
        let from : 0 + i ≡ i = omega arith in
        ap (λ (k : ℕ). get_or leaves k []) from ∙ get_or-map leaf_bytes lane.entries i d [] (omega (arith, low, within)) ∙ ap leaf_bytes (sym (get_or-take count lane.entries i d low)))
        ∙ ap (λ (k : ℕ). shown_with leaves (range_with_len 0 k)) many

    -- what it rebuilds to
    front_root : 1 ≤ count → count ≤ length lane.entries → All (IsEntryIn met) (take count lane.entries) → list_digest H archive.format met term ≡ Some term.entry.root
    front_root some within are =
        let digests : List (List ℕ) = prefix_digests H archive.format lane.entries count in
        ap (λ (p : Prefix). prefix_root H archive.format term.entry.f (shown_list 0 met term.prefix.entries) p.digests) is.front
        ∙ ap₂ (λ (k : ℕ) (s : List Shown). prefix_root H archive.format k s digests) is.size (front_shown within are)
        ∙ front-rebuilds H archive.format lane.entries count some within
        ∙ ap Some (sym is.root)

    front_right : (n : ℕ) → IsList n lane.entries → 1 ≤ count → count ≤ length lane.entries → All (IsEntryIn met) (take count lane.entries) → IsListRight H archive.format met term
    front_right n own some within are = record {
      names = subst (λ (p : Prefix). AreNames (length met) (indexes_of p.entries)) (sym is.front) (front_names n met lane.entries count own within are);
      root = front_root some within are;
    }

  -- ---- all of them

  -- the lanes that a check makes of them are those of the cut
  pub front_lanes : (lanes : List WholeLane) (cut : List ℕ) (terms : List Presented) → AreFronts H archive asked met lanes cut terms
      → AreIn met (shown lanes cut) → map (client.lane_of (length archive.texts) met) terms ≡ shown lanes cut
  front_lanes [] cut [] fronts are = refl
  front_lanes [] cut (term ∷ terms) fronts are = absurd fronts
  front_lanes (lane ∷ lanes) [] terms fronts are = absurd fronts
  front_lanes (lane ∷ lanes) (count ∷ cut) [] fronts are = absurd fronts
  front_lanes (lane ∷ lanes) (count ∷ cut) (term ∷ terms) fronts are =
      let here : ShownLane = shown_lane lane.coefficient lane.entries count in
      ap₂ (λ x xs. x ∷ xs) (front_lane lane count term fronts.0 (first_in met here (shown lanes cut) are))
      (front_lanes lanes cut terms fronts.1 (later_in met here (shown lanes cut) are))

  -- what holds of the term of each front holds of all terms
  pub fronts_each : (n : ℕ) (P : Presented → Type 0)
      → ((lane : WholeLane) (count : ℕ) (term : Presented) → IsFront H archive asked met lane count term → IsList n lane.entries → 1 ≤ count → count ≤ length lane.entries
      → All (IsEntryIn met) (take count lane.entries) → P term)
      → (lanes : List WholeLane) (cut : List ℕ) (terms : List Presented) → AreFronts H archive asked met lanes cut terms → All (HasList n) lanes → IsCut lanes cut → AreIn met (shown lanes cut)
      → All P terms
  fronts_each n P each [] cut [] fronts lists is are = All-nil P
  fronts_each n P each [] cut (term ∷ terms) fronts lists is are = absurd fronts
  fronts_each n P each (lane ∷ lanes) [] terms fronts lists is are = absurd fronts
  fronts_each n P each (lane ∷ lanes) (count ∷ cut) [] fronts lists is are = absurd fronts
  fronts_each n P each (lane ∷ lanes) (count ∷ cut) (term ∷ terms) fronts lists is are =
      let here : ShownLane = shown_lane lane.coefficient lane.entries count in
      let shows : (1 ≤ count) × (count ≤ length lane.entries) = is.each 0 lane (omega arith) in
      All-cons P term terms
      (each lane count term fronts.0 (All-head (HasList n) lane lanes lists) shows.0 shows.1 (first_in met here (shown lanes cut) are))
      (fronts_each n P each lanes cut terms fronts.1 (All-tail (HasList n) lane lanes lists) (tail_cut lane lanes count cut is) (later_in met here (shown lanes cut) are))

  -- the check accepts them
  pub fronts_right : (n : ℕ) (lanes : List WholeLane) (cut : List ℕ) (terms : List Presented) → AreFronts H archive asked met lanes cut terms
      → All (HasList n) lanes → IsCut lanes cut → AreIn met (shown lanes cut) → All (IsListRight H archive.format met) terms
  fronts_right n = fronts_each n (IsListRight H archive.format met) (λ lane count term front. front_right lane count term front n)
