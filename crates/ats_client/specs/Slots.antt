-- When a slot shows that a term is in a tree of terms, or that it is absent.
use Rattle.std.specs.Prelude.{◌≡◌, ◌+◌, ℕ, Bool, true, false, List, Some, slice_get}
use Rattle.ats_dict.specs.Dictionary.{IsBelow}
use Rattle.ats_proof.specs.declared.record.Slot.{Slot}
use Rattle.ats_proof.specs.Value.{ShownEntry}

-- a shown leaf: its position in the tree, and its term
pub record Shown : Type 0 where
  pub position : ℕ
  pub term : List ℕ

-- a shown leaf of the dictionary
abbrev pub entry_shown : ShownEntry → Shown
entry_shown e = record { position = e.position; term = e.entry.term }

-- the leaf at this place has the term
pub record IsAt (leaves : List Shown) (term : List ℕ) (place : ℕ) : Type 0 where
  pub leaf : Shown
  pub there : slice_get leaves place ≡ Some leaf
  pub same : leaf.term ≡ term

-- the leaf at this place and the next one are neighbours in the tree, and the term lies between theirs
pub record IsBetween (leaves : List Shown) (term : List ℕ) (place : ℕ) : Type 0 where
  pub lower : Shown
  pub upper : Shown
  pub there : slice_get leaves place ≡ Some lower
  pub next : slice_get leaves (place + 1) ≡ Some upper
  pub neighbours : upper.position ≡ lower.position + 1
  pub above : IsBelow lower.term term
  pub below : IsBelow term upper.term

abbrev pub Shows : Bool → List Shown → List ℕ → ℕ → Type 0
Shows true leaves term place = IsAt leaves term place
Shows false leaves term place = IsBetween leaves term place

-- the term is at the slot's leaf, or absent right after it
abbrev pub ShowsTerm : List Shown → List ℕ → Slot → Type 0
ShowsTerm leaves term slot = Shows slot.present leaves term slot.index
