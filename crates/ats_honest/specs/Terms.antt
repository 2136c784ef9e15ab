-- The places of a query's terms among leaves in byte order, and the leaves that prove them.
use Rattle.std.specs.Prelude.{◌≡◌, ◌+◌, ◌==◌, ℕ, Bool, true, false, List, [], ◌∷◌, nat_lt}
use Rattle.std.specs.List.{count_by, flat_map, list_any}
use Rattle.std.specs.List.Sorted.{IsStrictlyIncreasing}
use Rattle.ats_dict.specs.declared.spot.Spot.{Spot}
use Rattle.ats_dict.specs.declared.spot.Spot.TheVariants.{At, Between}
use Rattle.ats_dict.specs.Entry.{DictEntry}
use Rattle.ats_dict.specs.Dictionary.{entry_at}
use Rattle.ats_dict.specs.Found.{IsSpot}
use Rattle.ats_proof.specs.declared.record.Slot.{Slot}
use Rattle.ats_proof.specs.Value.{ShownEntry}

-- each term has its spot; `is` relates a term to its spot
abbrev pub HaveSpots : (List ℕ → Spot → Type 0) → List (List ℕ × ℕ) → List Spot → Type 0
HaveSpots is [] [] = Unit {0}
HaveSpots is [] (spot ∷ spots) = ⊥
HaveSpots is (pair ∷ terms) [] = ⊥
HaveSpots is (pair ∷ terms) (spot ∷ spots) = is pair.0 spot × HaveSpots is terms spots

-- each term of the query has its spot in the dictionary
abbrev pub AreSpots : List DictEntry → List (List ℕ × ℕ) → List Spot → Type 0
AreSpots entries query spots = HaveSpots (IsSpot entries) query spots

-- the positions that show a term: its leaf, or both neighbours if it is absent
abbrev pub needs : Spot → List ℕ
needs (At p) = p ∷ []
needs (Between p) = p ∷ (p + 1) ∷ []

-- whether a number is in the list
abbrev pub has : ℕ → List ℕ → Bool
has n numbers = list_any (λ m. m == n) numbers

-- the positions that some term needs, each once, rising
pub record AreNeeded (spots : List Spot) (positions : List ℕ) : Type 0 where
  pub rise : IsStrictlyIncreasing positions
  pub needed : (p : ℕ) → has p positions ≡ has p (flat_map needs spots)

-- how many numbers of the list are below n: its place among numbers that rise
abbrev pub place : List ℕ → ℕ → ℕ
place numbers n = count_by (λ m. nat_lt m n) numbers

-- the leaf at a position
abbrev pub shown_entry : List DictEntry → ℕ → ShownEntry
shown_entry entries p = record { position = p; entry = entry_at entries p }

-- a term's slot: the place of its leaf among the shown ones, or that of its lower neighbour
abbrev pub slot_of : List ℕ → Spot → Slot
slot_of positions (At p) = record { present = true; index = place positions p }
slot_of positions (Between p) = record { present = false; index = place positions p }
