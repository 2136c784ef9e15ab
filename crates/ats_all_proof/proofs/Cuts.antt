-- What the cut of the proof shows of each list.
use Rattle.std.proofs.Common.{◌≡◌, ◌<◌, ◌≤◌, ◌∙◌, ℕ, zero, suc, Bool, true, cond, List, [], ◌∷◌, length, map, get_or, nat_eq, nat_lt, refl, ap, inl, inr, arith}
use Rattle.std.specs.List.{All, list_any}
use Rattle.std.proofs.lemmas.Bool.{cases_Bool, eq-eqb}
use Rattle.std.proofs.lemmas.List.{get_or-map, length-map}
use Rattle.std.proofs.lemmas.List.Elements.{All-head, All-tail}
use Rattle.ats_bound.specs.Schedule.{IsCut, WholeLane}
use Rattle.ats_honest.specs.Lanes.{lanes_of}
use Rattle.ats_honest.proofs.Public.{lanes_have_lists}
use Rattle.ats_all_proof.specs.Made.{both_cut, entry_counts, first_least_whole}

-- the counts of the rest of the lists, if one was shown whole before, or none was
abbrev pub cut_after : Bool → List ℕ → List ℕ
cut_after has_whole rest = cond has_whole (map (λ n. 1) rest) (first_least_whole rest)

-- ---- each count

-- a count that is from 1 to all entries
abbrev IsFrom : ℕ → ℕ → Type 0
IsFrom count all = (1 ≤ count) × (count ≤ all)

ones_each : (counts : List ℕ) (i : ℕ) → i < length counts → All (λ n. 1 ≤ n) counts → IsFrom (get_or (map (λ n. 1) counts) i 0) (get_or counts i 0)
ones_each [] i inside some = absurd (omega arith)
ones_each (n ∷ rest) zero inside some = (omega arith, All-head (λ m. 1 ≤ m) n rest some)
ones_each (n ∷ rest) (suc i) inside some = ones_each rest i (omega arith) (All-tail (λ m. 1 ≤ m) n rest some)

least_each : (counts : List ℕ) (i : ℕ) → i < length counts → All (λ n. 1 ≤ n) counts → IsFrom (get_or (first_least_whole counts) i 0) (get_or counts i 0)
least_each [] i inside some = absurd (omega arith)
least_each (n ∷ rest) zero inside some =
    let first : 1 ≤ n = All-head (λ m. 1 ≤ m) n rest some in
    elim (cases_Bool (list_any (λ m. nat_lt m n) rest)) [
      | inl less ↦ rw less (omega arith, first)
      | inr none ↦ rw none (first, omega arith)
    ]
least_each (n ∷ rest) (suc i) inside some =
    let later = All-tail (λ m. 1 ≤ m) n rest some in
    elim (cases_Bool (list_any (λ m. nat_lt m n) rest)) [
      | inl less ↦ rw less (least_each rest i (omega arith) later)
      | inr none ↦ rw none (ones_each rest i (omega arith) later)
    ]

length-least : (counts : List ℕ) → length (first_least_whole counts) ≡ length counts
length-least [] = refl
length-least (n ∷ rest) = elim (cases_Bool (list_any (λ m. nat_lt m n) rest)) [
  | inl less ↦ rw less (ap suc (length-least rest))
  | inr none ↦ rw none (ap suc (length-map rest (λ m. 1)))
]

-- the place of a list that is shown whole
record HasWhole (counts cut : List ℕ) : Type 0 where
  place : ℕ
  inside : place < length counts
  whole : get_or cut place 0 ≡ get_or counts place 0

least_whole : (counts : List ℕ) → 1 ≤ length counts → HasWhole counts (first_least_whole counts)
least_whole [] some = absurd (omega arith)
least_whole (n ∷ []) some = record { place = 0; inside = omega arith; whole = refl }
least_whole (n ∷ m ∷ rest) some =
    let later = least_whole (m ∷ rest) (omega arith) in
    elim (cases_Bool (list_any (λ k. nat_lt k n) (m ∷ rest))) [
      | inl less ↦ rw less (record { place = suc later.place; inside = omega (arith, later.inside); whole = later.whole })
      | inr none ↦ rw none (record { place = 0; inside = omega arith; whole = refl })
    ]

-- ---- the cut

-- the cut of lists with these numbers of entries, of a query with so many terms
abbrev pub cut_by : List ℕ → ℕ → List ℕ
cut_by counts terms = cond (nat_eq (length counts) terms) (first_least_whole counts) (map (λ n. 1) counts)

each_by : (counts : List ℕ) (terms i : ℕ) → i < length counts → All (λ n. 1 ≤ n) counts → IsFrom (get_or (cut_by counts terms) i 0) (get_or counts i 0)
each_by counts terms i inside some = elim (cases_Bool (nat_eq (length counts) terms)) [
  | inl all ↦ rw all (least_each counts i inside some)
  | inr not ↦ rw not (ones_each counts i inside some)
]

length_by : (counts : List ℕ) (terms : ℕ) → length (cut_by counts terms) ≡ length counts
length_by counts terms = elim (cases_Bool (nat_eq (length counts) terms)) [
  | inl all ↦ rw all (length-least counts)
  | inr not ↦ rw not (length-map counts (λ n. 1))
]

abbrev no_lane : WholeLane
no_lane = record { coefficient = 0; entries = [] }

-- each list has an entry
counts_some : (texts : List (List ℕ)) (query : List (List ℕ × ℕ)) → All (λ n. 1 ≤ n) (entry_counts texts query)
counts_some texts query i d inside =
    let lanes = lanes_of texts query in
    let count : WholeLane → ℕ = λ (lane : WholeLane). length lane.entries in
    let low : i < length lanes = omega (arith, inside, length-map lanes count) in
    omega (arith, get_or-map count lanes i no_lane d low, (lanes_have_lists texts query i no_lane low).some)

-- the cut shows of each list at least one entry, and at most all
pub both_is_cut : (texts : List (List ℕ)) (query : List (List ℕ × ℕ)) → IsCut (lanes_of texts query) (both_cut texts query)
both_is_cut texts query =
    let lanes = lanes_of texts query in
    let count : WholeLane → ℕ = λ (lane : WholeLane). length lane.entries in
    let counts = entry_counts texts query in
    let size : length counts ≡ length lanes = length-map lanes count in
    record {
      size = length_by counts (length query) ∙ size;
      each = λ i d inside.
          let each = each_by counts (length query) i (omega (arith, size, inside)) (counts_some texts query) in
          let same : get_or counts i 0 ≡ length (get_or lanes i d).entries = get_or-map count lanes i d 0 inside in
          (each.0, omega (arith, each.1, same));
    }

-- the place of a list that the cut shows whole
pub record ShowsWhole (lanes : List WholeLane) (cut : List ℕ) : Type 0 where
  pub place : ℕ
  pub inside : place < length lanes
  pub whole : (d : WholeLane) → get_or cut place 0 ≡ length (get_or lanes place d).entries

-- if some text has each term of a query, and it has a term, some list is shown whole
pub both_shows_whole : (texts : List (List ℕ)) (query : List (List ℕ × ℕ)) → length (lanes_of texts query) ≡ length query → 1 ≤ length query
    → ShowsWhole (lanes_of texts query) (both_cut texts query)
both_shows_whole texts query all some =
    let lanes = lanes_of texts query in
    let count : WholeLane → ℕ = λ (lane : WholeLane). length lane.entries in
    let counts = entry_counts texts query in
    let size : length counts ≡ length lanes = length-map lanes count in
    let test : nat_eq (length counts) (length query) ≡ true = eq-eqb (length counts) (length query) (size ∙ all) in
    let shows = least_whole counts (omega (arith, size, all, some)) in
    let is : both_cut texts query ≡ first_least_whole counts = rw test refl in
    record {
      place = shows.place;
      inside = omega (arith, size, shows.inside);
      whole = λ d. ap (λ (ns : List ℕ). get_or ns shows.place 0) is ∙ shows.whole ∙ get_or-map count lanes shows.place d 0 (omega (arith, size, shows.inside));
    }
