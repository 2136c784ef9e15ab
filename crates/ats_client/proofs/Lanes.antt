-- What the notes of present terms say of their lanes, whose documents the met indexes name.
use Rattle.std.proofs.Common.{◌≡◌, ◌<◌, ◌≤◌, ◌+◌, ◌-◌, ◌*◌, ◌||◌, ◌∙◌, ℕ, Bool, true, false, nat_eq, cond, List, [], ◌∷◌, length, map, get_or, refl, sym, ap, ap₂, arith, inl, inr, mul-zero, mul-add}
use Rattle.std.specs.List.{All, list_any, sum_by}
use Rattle.std.specs.List.Sorted.{IsStrictlyIncreasing}
use Rattle.std.proofs.lemmas.Bool.{cases_order}
use Rattle.std.proofs.lemmas.Bool.Decides.{nat_tests}
use Rattle.std.proofs.lemmas.List.{length-map}
use Rattle.std.proofs.lemmas.Simd.{map-map}
use Rattle.std.proofs.lemmas.List.Elements.{All-head, All-tail}
use Rattle.std.proofs.lemmas.List.Folds.{list_any-append}
use Rattle.std.proofs.lemmas.List.Kept.{AllPairs-from_increasing}
use Rattle.std.proofs.lemmas.List.Sums.{sum_by-cons, sum_by-append}
use Rattle.ats_impact.specs.Numbers.{idf}
use Rattle.ats_impact.specs.Rank.{times}
use Rattle.ats_postings.specs.declared.entry.Entry.{Entry}
use Rattle.ats_bound.specs.Cut.{ShownLane, rest, threshold, names, shown_impact, lo_of, held}
use Rattle.ats_bound.proofs.Public.{times-cons}
use Rattle.ats_proof.specs.Runs.{named}
use Rattle.ats_client.specs.Indexes.{AreNames}
use Rattle.ats_client.specs.Presented.{Presented, lane_of}
use Rattle.ats_client.specs.Groups.{indexes_of, met_at}
use Rattle.ats_client.specs.Inner.Noting.{Note, note, index_lane, lane_notes, notes_of, gain_of, held_of, has_note}
use Rattle.ats_client.proofs.Named.{any_some}
use Rattle.ats_client.proofs.ListNotes.{names_inside}

-- ---- one lane, by met indexes

any_map : {X Y : Type 0} (p : Y → Bool) (f : X → Y) (xs : List X) → list_any p (map f xs) ≡ list_any (λ x. p (f x)) xs
any_map p f [] = refl
any_map p f (x ∷ xs) = ap (λ b. p (f x) || b) (any_map p f xs)

gain_entry : (c amount : ℕ) (same : Bool) → cond same (c * amount) 0 ≡ c * cond same amount 0
gain_entry c amount true = refl
gain_entry c amount false = sym (mul-zero c)

abbrev impact_in : ℕ → List Entry → ℕ
impact_in i entries = sum_by (λ (e : Entry). cond (nat_eq e.doc i) e.impact 0) entries

gain_entries : (c most i : ℕ) (entries : List Entry) → gain_of i (map (note c most) entries) ≡ c * impact_in i entries
gain_entries c most i [] = sym (mul-zero c)
gain_entries c most i (e ∷ entries) =
    sum_by-cons (λ (n : Note). cond (nat_eq n.index i) n.gain 0) (note c most e) (map (note c most) entries)
    ∙ ap₂ (λ a b. a + b) (gain_entry c e.impact (nat_eq e.doc i)) (gain_entries c most i entries)
    ∙ sym (mul-add c (cond (nat_eq e.doc i) e.impact 0) (impact_in i entries))
    ∙ ap (λ n. c * n) (sym (sum_by-cons (λ (e : Entry). cond (nat_eq e.doc i) e.impact 0) e entries))

held_step : (here later : Bool) (most others n m : ℕ) → n ≡ cond here 1 0 + m → n ≤ 1 → (later ≡ true → 1 ≤ m) → others ≡ cond later most 0
    → cond here most 0 + others ≡ cond (here || later) most 0
held_step true true most others n m is once some all = let more = some refl in absurd (omega (arith, is, once, more))
held_step true false most others n m is once some all = omega (arith, all)
held_step false later most others n m is once some all = omega (arith, all)

fewer_times : (i x : ℕ) (xs : List ℕ) → times i (x ∷ xs) ≤ 1 → times i xs ≤ 1
fewer_times i x xs once = let step = times-cons i x xs in omega (arith, step, once)

held_entries : (c most i : ℕ) (entries : List Entry) → times i (indexes_of entries) ≤ 1
    → held_of i (map (note c most) entries) ≡ cond (list_any (λ (e : Entry). nat_eq e.doc i) entries) most 0
held_entries c most i [] once = refl
held_entries c most i (e ∷ entries) once =
    sum_by-cons (λ (n : Note). cond (nat_eq n.index i) n.rest 0) (note c most e) (map (note c most) entries)
    ∙ held_step (nat_eq e.doc i) (list_any (λ (e : Entry). nat_eq e.doc i) entries) most (held_of i (map (note c most) entries))
    (times i (indexes_of (e ∷ entries))) (times i (indexes_of entries)) (times-cons i e.doc (indexes_of entries)) once
    (λ there. any_some i (indexes_of entries) (any_map (λ x. nat_eq x i) (λ (e : Entry). e.doc) entries ∙ there))
    (held_entries c most i entries (fewer_times i e.doc (indexes_of entries) once))

-- ---- met indexes and the documents that they name

-- met ids are distinct
same_id : (met : List ℕ) → IsStrictlyIncreasing met → (a b : ℕ) → a < length met → b < length met → nat_eq (met_at met a) (met_at met b) ≡ nat_eq a b
same_id met rises a b low_a low_b =
    let pairs = AllPairs-from_increasing met rises in
    elim (cases_order a b) [
      | inl is ↦
          let same : met_at met a ≡ met_at met b = ap (met_at met) is in
          grind (arith, nat_tests)
      | inr (inl less) ↦
          let below : met_at met a < met_at met b = pairs a b 0 less low_b in
          grind (arith, nat_tests)
      | inr (inr more) ↦
          let above : met_at met b < met_at met a = pairs b a 0 more low_a in
          grind (arith, nat_tests)
    ]

names_id : (met : List ℕ) → IsStrictlyIncreasing met → (i : ℕ) → i < length met → (entries : List Entry) → All (λ (e : Entry). e.doc < length met) entries
    → list_any (λ (e : Entry). nat_eq e.doc (met_at met i)) (map (named met) entries) ≡ list_any (λ (e : Entry). nat_eq e.doc i) entries
names_id met rises i low [] inside = refl
names_id met rises i low (e ∷ entries) inside =
    ap₂ (λ a b. a || b) (same_id met rises e.doc i (All-head (λ (e : Entry). e.doc < length met) e entries inside) low)
    (names_id met rises i low entries (All-tail (λ (e : Entry). e.doc < length met) e entries inside))

impact_id : (met : List ℕ) → IsStrictlyIncreasing met → (i : ℕ) → i < length met → (entries : List Entry) → All (λ (e : Entry). e.doc < length met) entries
    → impact_in (met_at met i) (map (named met) entries) ≡ impact_in i entries
impact_id met rises i low [] inside = refl
impact_id met rises i low (e ∷ entries) inside =
    sum_by-cons (λ (e : Entry). cond (nat_eq e.doc (met_at met i)) e.impact 0) (named met e) (map (named met) entries)
    ∙ ap₂ (λ a b. a + b) (ap (λ b. cond b e.impact 0) (same_id met rises e.doc i (All-head (λ (e : Entry). e.doc < length met) e entries inside) low))
    (impact_id met rises i low entries (All-tail (λ (e : Entry). e.doc < length met) e entries inside))
    ∙ sym (sum_by-cons (λ (e : Entry). cond (nat_eq e.doc i) e.impact 0) e entries)

rest_id : (documents : ℕ) (met : List ℕ) (one : Presented) → rest (lane_of documents met one) ≡ rest (index_lane documents one)
rest_id documents met one =
    let entries : List Entry = one.prefix.entries in
    let size : length (map (named met) entries) ≡ length entries = length-map entries (named met) in
    let impacts : map (λ (e : Entry). e.impact) (map (named met) entries) ≡ map (λ (e : Entry). e.impact) entries = map-map (λ (e : Entry). e.impact) (named met) entries in
    ap₂ (λ (n : ℕ) (is : List ℕ). (one.weight * idf documents one.entry.f) * cond (nat_eq n one.entry.f) 0 (get_or is (n - 1) 0)) size impacts

-- ---- all lanes

abbrev AreAllNamed : List ℕ → List Presented → Type 0
AreAllNamed met terms = All (λ (one : Presented). AreNames (length met) (indexes_of one.prefix.entries)) terms

pub has_all : (documents : ℕ) (met : List ℕ) → IsStrictlyIncreasing met → (i : ℕ) → i < length met → (terms : List Presented) → AreAllNamed met terms
    → has_note i (notes_of documents terms) ≡ list_any (names (met_at met i)) (map (lane_of documents met) terms)
has_all documents met rises i low [] all = refl
has_all documents met rises i low (one ∷ terms) all =
    let here = All-head (λ (one : Presented). AreNames (length met) (indexes_of one.prefix.entries)) one terms all in
    let later = All-tail (λ (one : Presented). AreNames (length met) (indexes_of one.prefix.entries)) one terms all in
    let lane : ShownLane = index_lane documents one in
    list_any-append (λ (n : Note). nat_eq n.index i) (lane_notes lane) (notes_of documents terms)
    ∙ ap₂ (λ a b. a || b)
    (any_map (λ (n : Note). nat_eq n.index i) (note lane.coefficient (rest lane)) lane.shown ∙ sym (names_id met rises i low lane.shown (names_inside (length met) lane.shown here)))
    (has_all documents met rises i low terms later)

-- what a sum over the notes of one term is by its lane, it is for all
sum_all : (documents : ℕ) (met : List ℕ) (by_note : Note → ℕ) (by_lane : ShownLane → ℕ)
    → ((one : Presented) → AreNames (length met) (indexes_of one.prefix.entries) → sum_by by_note (lane_notes (index_lane documents one)) ≡ by_lane (lane_of documents met one))
    → (terms : List Presented) → AreAllNamed met terms → sum_by by_note (notes_of documents terms) ≡ sum_by by_lane (map (lane_of documents met) terms)
sum_all documents met by_note by_lane each [] all = refl
sum_all documents met by_note by_lane each (one ∷ terms) all =
    sum_by-append by_note (lane_notes (index_lane documents one)) (notes_of documents terms)
    ∙ ap₂ (λ a b. a + b) (each one (All-head (λ (one : Presented). AreNames (length met) (indexes_of one.prefix.entries)) one terms all))
    (sum_all documents met by_note by_lane each terms (All-tail (λ (one : Presented). AreNames (length met) (indexes_of one.prefix.entries)) one terms all))
    ∙ sym (sum_by-cons by_lane (lane_of documents met one) (map (lane_of documents met) terms))

pub gain_all : (documents : ℕ) (met : List ℕ) → IsStrictlyIncreasing met → (i : ℕ) → i < length met → (terms : List Presented) → AreAllNamed met terms
    → gain_of i (notes_of documents terms) ≡ lo_of (map (lane_of documents met) terms) (met_at met i)
gain_all documents met rises i low =
    sum_all documents met (λ (n : Note). cond (nat_eq n.index i) n.gain 0) (λ (lane : ShownLane). lane.coefficient * shown_impact (met_at met i) lane) (λ one names.
    let lane : ShownLane = index_lane documents one in
    gain_entries lane.coefficient (rest lane) i lane.shown ∙ ap (λ n. lane.coefficient * n) (sym (impact_id met rises i low lane.shown (names_inside (length met) lane.shown names))))

pub held_all : (documents : ℕ) (met : List ℕ) → IsStrictlyIncreasing met → (i : ℕ) → i < length met → (terms : List Presented) → AreAllNamed met terms
    → held_of i (notes_of documents terms) ≡ held (map (lane_of documents met) terms) (met_at met i)
held_all documents met rises i low =
    sum_all documents met (λ (n : Note). cond (nat_eq n.index i) n.rest 0) (λ (lane : ShownLane). cond (names (met_at met i) lane) (rest lane) 0) (λ one named_all.
    let lane : ShownLane = index_lane documents one in
    held_entries lane.coefficient (rest lane) i lane.shown (named_all.once i)
    ∙ ap₂ (λ b n. cond b n 0) (sym (names_id met rises i low lane.shown (names_inside (length met) lane.shown named_all))) (sym (rest_id documents met one)))

pub rests_all : (documents : ℕ) (met : List ℕ) (terms : List Presented) → threshold (map (index_lane documents) terms) ≡ threshold (map (lane_of documents met) terms)
rests_all documents met [] = refl
rests_all documents met (one ∷ terms) =
    sum_by-cons rest (index_lane documents one) (map (index_lane documents) terms)
    ∙ ap₂ (λ a b. a + b) (sym (rest_id documents met one)) (rests_all documents met terms)
    ∙ sym (sum_by-cons rest (lane_of documents met one) (map (lane_of documents met) terms))
