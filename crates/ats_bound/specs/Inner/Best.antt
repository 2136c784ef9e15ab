-- The largest of a growing list of numbers.
use Rattle.std.specs.Prelude.{◌≡◌, ◌≢◌, ◌<◌, ◌≤◌, ℕ, List, length, min, count_by, leb, slice_index}

-- how many of the numbers are at least this one
abbrev pub count_at_least : ℕ → List ℕ → ℕ
count_at_least least numbers = count_by (λ x. leb least x) numbers

-- no number is above a later one
abbrev pub Ascends : List ℕ → Type 0
Ascends numbers = (i j : ℕ) → i ≤ j → j < length numbers → slice_index numbers i ≤ slice_index numbers j

-- the number at this place is no lower than those before it, and the others ascend
pub record AscendsBut (place : ℕ) (numbers : List ℕ) : Type 0 where
  pub before : (i : ℕ) → i < place → slice_index numbers i ≤ slice_index numbers place
  pub others : (i j : ℕ) → i ≤ j → j < length numbers → i ≢ place → j ≢ place
      → slice_index numbers i ≤ slice_index numbers j

-- one or more numbers, ascending
pub record AreKept (kept : List ℕ) : Type 0 where
  pub some : 1 ≤ length kept
  pub ascends : Ascends kept

-- the largest of all numbers, as many as are kept; a 0 fills the place of each that is still missing
pub record AreBest (kept all : List ℕ) : Type 0 where
  pub each : (least : ℕ) → 1 ≤ least → count_at_least least kept ≡ min (length kept) (count_at_least least all)
