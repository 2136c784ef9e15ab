-- The numbers of an honest proof are in their ranges.
use Rattle.std.proofs.Common.{◌≡◌, ◌⊎◌, ◌+◌, ◌<◌, ◌≤◌, ◌||◌, ℕ, zero, suc, true, nat_lt, nat_eq, List, [], ◌∷◌, length, map, get_or, refl, sym, ap, subst, ◌∙◌, arith, inl, inr}
use Rattle.std.specs.List.{All, flat_map}
use Rattle.std.specs.List.Sorted.{IsStrictlyIncreasing}
use Rattle.std.proofs.lemmas.Bool.{cases_lt, or_cases}
use Rattle.std.proofs.lemmas.Cmp.{nat_list_cmp_total, tied_itself}
use Rattle.std.proofs.lemmas.List.{get_or_default}
use Rattle.std.proofs.lemmas.List.Elements.{All-tail}
use Rattle.std.proofs.lemmas.List.Folds.{list_any-append}
use Rattle.std.proofs.lemmas.List.Sums.{count_by-le-length}
use Rattle.std.proofs.lemmas.List.Kept.{AllPairs-from_increasing}
use Rattle.ats_terms.specs.Query.{Rises, RisesFrom}
use Rattle.ats_dict.specs.declared.spot.Spot.{Spot}
use Rattle.ats_dict.specs.declared.spot.Spot.TheVariants.{At, Between}
use Rattle.ats_dict.specs.Entry.{DictEntry}
use Rattle.ats_dict.specs.Dictionary.{IsBelow, IsDictionary, term_at}
use Rattle.ats_dict.specs.Found.{IsSpot}
use Rattle.ats_dict.proofs.Public.{terms_rise}
use Rattle.ats_proof.proofs.Public.{increasing-tail}
use Rattle.ats_honest.specs.Terms.{AreSpots, AreNeeded, HaveSpots, has, needs, place, shown_entry, slot_of}
use Rattle.ats_honest.specs.Inner.Terms.{lower}
use Rattle.ats_honest.proofs.Spots.{leaf_at, lower_within}
use Rattle.ats_honest.proofs.Places.{place_grows}
use Rattle.ats_bound.proofs.Public.{has_contained, contained_has}
use Rattle.ats_honest.proofs.Coming.{AreGoodEntries, AreGoodSlots, AreGoodIds}

-- ---- positions

one_needed : (p n : ℕ) (spot : Spot) → lower spot ≤ n → has p (needs spot) ≡ true → p ≤ n + 1
one_needed p n (At q) low is =
    let any = contained_has p (q ∷ []) is in
    within_one any.0 any.1 any.2
  where
    within_one : (k : ℕ) → k < 1 → get_or (q ∷ []) k p ≡ p → p ≤ n + 1
    within_one zero inside same = omega (arith, same, low)
    within_one (suc k) inside same = absurd (omega (arith, inside))
one_needed p n (Between q) low is =
    let any = contained_has p (q ∷ (q + 1) ∷ []) is in
    within_two any.0 any.1 any.2
  where
    within_two : (k : ℕ) → k < 2 → get_or (q ∷ (q + 1) ∷ []) k p ≡ p → p ≤ n + 1
    within_two zero inside same = omega (arith, same, low)
    within_two (suc zero) inside same = omega (arith, same, low)
    within_two (suc (suc k)) inside same = absurd (omega (arith, inside))

module _ (is : List ℕ → Spot → Type 0) (n : ℕ) (within : (term : List ℕ) (spot : Spot) → is term spot → lower spot ≤ n) where
  needed_below : (p : ℕ) (terms : List (List ℕ × ℕ)) (spots : List Spot) → HaveSpots is terms spots → has p (flat_map needs spots) ≡ true → p ≤ n + 1
  needed_below p [] [] are stands = absurd (cc)
  needed_below p [] (spot ∷ spots) are stands = absurd are
  needed_below p (pair ∷ terms) [] are stands = absurd are
  needed_below p (pair ∷ terms) (spot ∷ spots) are stands =
      elim (or_cases (has p (needs spot)) (has p (flat_map needs spots)) (sym (list_any-append (λ m. nat_eq m p) (needs spot) (flat_map needs spots)) ∙ stands)) [
        | inl here ↦ one_needed p n spot (within pair.0 spot are.0) here
        | inr later ↦ needed_below p terms spots are.1 later
      ]

  -- positions that spots need are those of leaves
  pub all_below : (terms : List (List ℕ × ℕ)) (spots : List Spot) (positions : List ℕ) → HaveSpots is terms spots → AreNeeded spots positions → All (λ p. p < n + 2) positions
  all_below terms spots positions are needed k d inside =
      let p = get_or positions k d in
      let stands : has p positions ≡ true = has_contained p positions (k, inside, get_or_default positions k p d inside) in
      omega (arith, needed_below p terms spots are (sym (needed.needed p) ∙ stands))

pub positions_below : (entries : List DictEntry) (query : List (List ℕ × ℕ)) (spots : List Spot) (positions : List ℕ) → AreSpots entries query spots → AreNeeded spots positions
    → All (λ p. p < length entries + 2) positions
positions_below entries query spots positions are needed = all_below (IsSpot entries) (length entries) (lower_within entries) query spots positions are needed

-- a term needs a leaf
pub some_needed : (is : List ℕ → Spot → Type 0) (terms : List (List ℕ × ℕ)) (spots : List Spot) (positions : List ℕ) → 1 ≤ length terms → HaveSpots is terms spots → AreNeeded spots positions
    → 1 ≤ length positions
some_needed is [] spots positions some are needed = absurd (omega (arith, some))
some_needed is (pair ∷ terms) [] positions some are needed = absurd are
some_needed is (pair ∷ terms) (spot ∷ spots) positions some are needed =
    let first : has (lower spot) (flat_map needs (spot ∷ spots)) ≡ true = list_any-append (λ m. nat_eq m (lower spot)) (needs spot) (flat_map needs spots) ∙ ap (λ b. b || has (lower spot) (flat_map needs spots)) (own spot) in
    let at = contained_has (lower spot) positions (needed.needed (lower spot) ∙ first) in
    omega (arith, at.1)
  where
    own : (s : Spot) → has (lower s) (needs s) ≡ true
    own (At p) = has_contained p (p ∷ []) (0, omega arith, refl)
    own (Between p) = has_contained p (p ∷ (p + 1) ∷ []) (0, omega arith, refl)

pub above_first : (x : ℕ) (xs : List ℕ) → IsStrictlyIncreasing (x ∷ xs) → All (λ y. x + 1 ≤ y) xs
above_first x xs rises k d inside = omega (arith, AllPairs-from_increasing (x ∷ xs) rises 0 (suc k) d (omega arith) (omega (arith, inside)))

pub good_entries : (entries : List DictEntry) (ps : List ℕ) (low : ℕ) → IsDictionary entries → IsStrictlyIncreasing ps → All (λ p. low ≤ p) ps → All (λ p. p < length entries + 2) ps
    → AreGoodEntries low (map (shown_entry entries) ps)
good_entries entries [] low is rises above below = tt
good_entries entries (p ∷ ps) low is rises above below =
    let first = below 0 0 (omega arith) in (
      above 0 0 (omega arith),
      omega (arith, first, is.few),
      leaf_at entries p is first,
      good_entries entries ps (p + 1) is (increasing-tail p ps rises) (above_first p ps rises) (All-tail (λ q. q < length entries + 2) p ps below),
    )

pub good_ids : (ids : List ℕ) (low : ℕ) → IsStrictlyIncreasing ids → All (λ n. low ≤ n) ids → All (λ n. n < 65536) ids → AreGoodIds low ids
good_ids [] low rises above below = tt
good_ids (n ∷ ids) low rises above below =
    (above 0 0 (omega arith), omega (arith, below 0 0 (omega arith)), good_ids ids (n + 1) (increasing-tail n ids rises) (above_first n ids rises) (All-tail (λ m. m < 65536) n ids below))

-- ---- slots never fall

-- no term is below itself
pub not_below_itself : (xs : List ℕ) → IsBelow xs xs → ⊥
not_below_itself xs is = let tied = tied_itself nat_list_cmp_total xs in absurd (cc)

index_is : (positions : List ℕ) (spot : Spot) → (slot_of positions spot).index ≡ place positions (lower spot)
index_is positions (At p) = refl
index_is positions (Between p) = refl

-- if the terms of the leaves from 0 to n + 1 rise, and each term lies from its lower leaf on to the next
module _
    (at : ℕ → List ℕ)
    (n : ℕ)
    (is : List ℕ → Spot → Type 0)
    (rise : (p q : ℕ) → p < q → q < n + 2 → IsBelow (at p) (at q))
    (within : (term : List ℕ) (spot : Spot) → is term spot → lower spot ≤ n)
    (lower_at : (term : List ℕ) (spot : Spot) → is term spot → (at (lower spot) ≡ term) ⊎ IsBelow (at (lower spot)) term)
    (upper_at : (term : List ℕ) (spot : Spot) → is term spot → IsBelow term (at (lower spot + 1)))
  where
    lowers_never_fall : (term other : List ℕ) (s t : Spot) → is term s → is other t → IsBelow term other → lower s ≤ lower t
    lowers_never_fall term other s t first second below = elim (cases_lt (lower t) (lower s)) [
      | inl falls ↦
          let up = upper_at other t second in
          let trans = nat_list_cmp_total.trans in
          let reach : IsBelow other (at (lower s)) = elim (cases_lt (lower t + 1) (lower s)) [
            | inl more ↦ trans other (at (lower t + 1)) (at (lower s)) up (rise (lower t + 1) (lower s) more (omega (arith, within term s first)))
            | inr last ↦
                let same : lower t + 1 ≡ lower s = omega (arith, falls, last) in
                subst (λ (p : ℕ). IsBelow other (at p)) same up
          ] in
          let back : IsBelow other term = elim (lower_at term s first) [
            | inl same ↦ subst (λ (x : List ℕ). IsBelow other x) same reach
            | inr more ↦ trans other (at (lower s)) term reach more
          ] in
          absurd (not_below_itself other (trans other term other back below))
      | inr most ↦ most
    ]

    slots_from : (positions : List ℕ) (term : List ℕ) (spot : Spot) (terms : List (List ℕ × ℕ)) (spots : List Spot) → length positions ≤ 64
        → is term spot → RisesFrom term terms → HaveSpots is terms spots → AreGoodSlots (slot_of positions spot).index (map (slot_of positions) spots)
    slots_from positions term spot [] [] few own rises are = tt
    slots_from positions term spot [] (s ∷ spots) few own rises are = absurd are
    slots_from positions term spot (pair ∷ terms) [] few own rises are = absurd are
    slots_from positions term spot (pair ∷ terms) (s ∷ spots) few own rises are =
        let up = place_grows positions (lower spot) (lower s) (lowers_never_fall term pair.0 spot s own are.0 rises.0) in (
          omega (arith, up, index_is positions spot, index_is positions s),
          omega (arith, index_is positions s, count_by-le-length (λ m. nat_lt m (lower s)) positions, few),
          slots_from positions pair.0 s terms spots few are.0 rises.1 are.1,
        )

    pub rising_slots : (positions : List ℕ) (terms : List (List ℕ × ℕ)) (spots : List Spot) → length positions ≤ 64
        → Rises terms → HaveSpots is terms spots → AreGoodSlots 0 (map (slot_of positions) spots)
    rising_slots positions [] [] few rises are = tt
    rising_slots positions [] (s ∷ spots) few rises are = absurd are
    rising_slots positions (pair ∷ terms) [] few rises are = absurd are
    rising_slots positions (pair ∷ terms) (s ∷ spots) few rises are =
        (omega arith, omega (arith, index_is positions s, count_by-le-length (λ m. nat_lt m (lower s)) positions, few), slots_from positions pair.0 s terms spots few are.0 rises are.1)

-- ---- in a dictionary

lower_entry : (entries : List DictEntry) (term : List ℕ) (spot : Spot) → IsSpot entries term spot → (term_at entries (lower spot) ≡ term) ⊎ IsBelow (term_at entries (lower spot)) term
lower_entry entries term (At p) is = inl is.same
lower_entry entries term (Between p) is = inr is.above

upper_entry : (entries : List DictEntry) → IsDictionary entries → (term : List ℕ) (spot : Spot) → IsSpot entries term spot → IsBelow term (term_at entries (lower spot + 1))
upper_entry entries dictionary term (At p) is = subst (λ (t : List ℕ). IsBelow t (term_at entries (p + 1))) is.same (terms_rise entries dictionary p (p + 1) (omega arith) (omega (arith, is.within)))
upper_entry entries dictionary term (Between p) is = is.below

pub good_slots : (entries : List DictEntry) (positions : List ℕ) (query : List (List ℕ × ℕ)) (spots : List Spot) → IsDictionary entries → length positions ≤ 64
    → Rises query → AreSpots entries query spots → AreGoodSlots 0 (map (slot_of positions) spots)
good_slots entries positions query spots dictionary few rises are =
    rising_slots (term_at entries) (length entries) (IsSpot entries) (terms_rise entries dictionary) (lower_within entries) (lower_entry entries) (upper_entry entries dictionary) positions query spots few rises are
