-- Strings kept one after another: their bytes joined, and the place where each ends.
use Rattle.std.specs.Prelude.{◌≡◌, ◌≤◌, ◌-◌, ◌==◌, ℕ, List, [], ◌∷◌, length, slice_index, slice_range, if◌then◌else◌}
use Rattle.std.specs.List.{All}
use Rattle.ats_terms.specs.Terms.{IsTerm}

-- the strings that end at these places; the first begins at `start`, each other one at the end of the one before it
abbrev pub strings_from : List ℕ → ℕ → List ℕ → List (List ℕ)
strings_from bytes start [] = []
strings_from bytes start (end ∷ ends) = slice_range bytes start end ∷ strings_from bytes end ends

abbrev pub strings : List ℕ → List ℕ → List (List ℕ)
strings bytes ends = strings_from bytes 0 ends

-- where string i begins: at the end of the one before it, the first at 0
abbrev pub start_of : List ℕ → ℕ → ℕ
start_of ends i = if i == 0 then 0 else slice_index ends (i - 1)

-- the places never decrease from `start` on, and the last is `len`
abbrev pub AreEnds : ℕ → List ℕ → ℕ → Type 0
AreEnds start [] len = start ≡ len
AreEnds start (end ∷ ends) len = (start ≤ end) × AreEnds end ends len

-- the bytes end where the last string does, and each string is a term
pub record ArePacked (bytes ends : List ℕ) : Type 0 where
  pub whole : AreEnds 0 ends (length bytes)
  pub terms : All IsTerm (strings bytes ends)
