-- The slots of documents, in pages of documents with neighbouring numbers.
use Rattle.std.specs.Prelude.{ℕ, zero, suc, List, Option, Some, None, nat_eq, slice_index, ◌/◌, ◌%◌}
use Rattle.std.specs.HashMap.{get, HashMap}

-- the number minus one, if it is not 0
abbrev pub before : ℕ → Option ℕ
before zero = None
before (suc slot) = Some slot

-- the slot in a cell of a page, which holds it plus one, or 0 for none
abbrev pub slot_at : Option (List ℕ) → ℕ → Option ℕ
slot_at None cell = None
slot_at (Some page) cell = before (slice_index page cell)

-- the slot of a document: a page has 64 of them
abbrev pub slot_in : {S : Type 0} → HashMap ℕ (List ℕ) S → ℕ → Option ℕ
slot_in pages doc = slot_at (get nat_eq pages (doc / 64)) (doc % 64)
