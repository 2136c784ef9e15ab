-- The slots of terms show their places among the leaves of a tree.
use Rattle.std.proofs.Common.{◌≡◌, ◌+◌, ◌<◌, ◌||◌, ℕ, zero, suc, true, false, nat_eq, List, [], ◌∷◌, length, map, get_or, slice_get, refl, sym, ap, subst, ◌∙◌, arith}
use Rattle.std.specs.List.{flat_map}
use Rattle.std.specs.List.Sorted.{IsStrictlyIncreasing}
use Rattle.std.proofs.lemmas.Bool.{or_left, or_right}
use Rattle.std.proofs.lemmas.List.{get_or-map}
use Rattle.std.proofs.lemmas.List.Folds.{list_any-append}
use Rattle.ats_dict.specs.declared.spot.Spot.{Spot}
use Rattle.ats_dict.specs.declared.spot.Spot.TheVariants.{At, Between}
use Rattle.ats_dict.specs.Dictionary.{IsBelow}
use Rattle.ats_proof.specs.declared.record.Slot.{Slot}
use Rattle.ats_client.specs.Groups.{slot_at}
use Rattle.ats_client.specs.Slots.{Shown, ShowsTerm}
use Rattle.ats_honest.specs.Terms.{AreNeeded, HaveSpots, has, needs, slot_of}
use Rattle.ats_honest.proofs.Public.{one_of_spots, spots_each}
use Rattle.ats_bound.proofs.Public.{has_contained}
use Rattle.ats_accepts.proofs.ShownPlaces.{next_place, shown_at_place}

-- ---- the leaves that spots need

-- what a spot needs is among the positions
abbrev pub IsShown : Spot → List ℕ → Type 0
IsShown spot positions = (p : ℕ) → has p (needs spot) ≡ true → has p positions ≡ true

abbrev pub AreShown : List Spot → List ℕ → Type 0
AreShown spots positions = (p : ℕ) → has p (flat_map needs spots) ≡ true → has p positions ≡ true

pub needed_shown : (spots : List Spot) (positions : List ℕ) → AreNeeded spots positions → AreShown spots positions
needed_shown spots positions are p is = are.needed p ∙ is

has_both : (p : ℕ) (spot : Spot) (spots : List Spot) → has p (flat_map needs (spot ∷ spots)) ≡ has p (needs spot) || has p (flat_map needs spots)
has_both p spot spots = list_any-append (λ m. nat_eq m p) (needs spot) (flat_map needs spots)

pub shown_first : (spot : Spot) (spots : List Spot) (positions : List ℕ) → AreShown (spot ∷ spots) positions → IsShown spot positions
shown_first spot spots positions are p is = are p (has_both p spot spots ∙ or_left (has p (needs spot)) (has p (flat_map needs spots)) is)

pub shown_rest : (spot : Spot) (spots : List Spot) (positions : List ℕ) → AreShown (spot ∷ spots) positions → AreShown spots positions
shown_rest spot spots positions are p is = are p (has_both p spot spots ∙ or_right (has p (needs spot)) (has p (flat_map needs spots)) is)

pub shown_each : (spots : List Spot) (positions : List ℕ) (i : ℕ) (d : Spot) → i < length spots → AreShown spots positions → IsShown (get_or spots i d) positions
shown_each [] positions i d inside are = absurd (omega (arith, inside))
shown_each (spot ∷ spots) positions zero d inside are = shown_first spot spots positions are
shown_each (spot ∷ spots) positions (suc i) d inside are = shown_each spots positions i d (omega (arith, inside)) (shown_rest spot spots positions are)

-- ---- what they show

-- the place of a term by its spot; `at` gives the term at each position
abbrev pub LiesBy : (ℕ → List ℕ) → List ℕ → Spot → Type 0
LiesBy at term (At p) = at p ≡ term
LiesBy at term (Between p) = IsBelow (at p) term × IsBelow term (at (p + 1))

-- the leaf at a position, by its term
abbrev pub leaf_at : (ℕ → List ℕ) → ℕ → Shown
leaf_at at p = record { position = p; term = at p }

-- the slot of a spot shows its term
spot_shows : (at : ℕ → List ℕ) (positions : List ℕ) (term : List ℕ) (spot : Spot) → IsStrictlyIncreasing positions → IsShown spot positions → LiesBy at term spot
    → ShowsTerm (map (leaf_at at) positions) term (slot_of positions spot)
spot_shows at positions term (At p) rise shown is = record {
  leaf = leaf_at at p;
  there = shown_at_place (leaf_at at) positions p rise (shown p (has_contained p (p ∷ []) (0, omega arith, refl)));
  same = is;
}
spot_shows at positions term (Between p) rise shown is =
    let own = shown p (has_contained p (p ∷ (p + 1) ∷ []) (0, omega arith, refl)) in
    let other = shown (p + 1) (has_contained (p + 1) (p ∷ (p + 1) ∷ []) (1, omega arith, refl)) in
    record {
      lower = leaf_at at p;
      upper = leaf_at at (p + 1);
      there = shown_at_place (leaf_at at) positions p rise own;
      next = ap (slice_get (map (leaf_at at) positions)) (sym (next_place positions p rise own other)) ∙ shown_at_place (leaf_at at) positions (p + 1) rise other;
      neighbours = refl;
      above = is.0;
      below = is.1;
    }

-- so does the slot of each term that has a spot
module _ (at : ℕ → List ℕ) (is : List ℕ → Spot → Type 0) (lies : (term : List ℕ) (spot : Spot) → is term spot → LiesBy at term spot) where
  pub slots_show : (terms : List (List ℕ × ℕ)) (spots : List Spot) (positions : List ℕ) → HaveSpots is terms spots → AreNeeded spots positions
      → (i : ℕ) → i < length terms → ShowsTerm (map (leaf_at at) positions) (get_or terms i ([], 0)).0 (slot_at (map (slot_of positions) spots) i)
  slots_show terms spots positions found needed i inside =
      let term : List ℕ = (get_or terms i ([], 0)).0 in
      let spot : Spot = get_or spots i (At 0) in
      let within : i < length spots = omega (arith, inside, spots_each is terms spots found) in
      let slot : slot_at (map (slot_of positions) spots) i ≡ slot_of positions spot = get_or-map (slot_of positions) spots i (At 0) (record { present = false; index = 0 }) within in
      subst (λ (s : Slot). ShowsTerm (map (leaf_at at) positions) term s) (sym slot)
      (spot_shows at positions term spot needed.rise (shown_each spots positions i (At 0) within (needed_shown spots positions needed))
      (lies term spot (one_of_spots is terms spots i ([], 0) (At 0) found inside)))
