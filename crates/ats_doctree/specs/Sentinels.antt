-- The leaves of a document's terms: the terms in byte order, between two sentinels.
use Rattle.std.specs.Prelude.{ℕ, List, [], ◌∷◌, ◌++◌, length, map, slice_index_or}
use Rattle.std.specs.Int.{to_be_bytes, w16}
pub use Rattle.ats_terms.specs.Order.{IsBelow}

-- the sentinels
abbrev pub low : List ℕ × ℕ
low = ([], 0)

abbrev pub high : List ℕ × ℕ
high = (255 ∷ [], 0)

-- the terms of all leaves, with their impacts
abbrev pub with_sentinels : List (List ℕ × ℕ) → List (List ℕ × ℕ)
with_sentinels items = low ∷ items ++ high ∷ []

-- the term of the leaf at a position, and its impact
abbrev pub item_at : List (List ℕ × ℕ) → ℕ → List ℕ × ℕ
item_at items p = slice_index_or (with_sentinels items) p low

abbrev pub term_at : List (List ℕ × ℕ) → ℕ → List ℕ
term_at items p = (item_at items p).0

abbrev pub impact_at : List (List ℕ × ℕ) → ℕ → ℕ
impact_at items p = (item_at items p).1

-- the length of the term in one byte, the term, and the impact in 2 bytes, high byte first
unfoldable pub leaf_bytes : List ℕ × ℕ → List ℕ
leaf_bytes item = length item.0 ∷ item.0 ++ to_be_bytes w16 item.1

-- the bytes of all leaves
abbrev pub terms_leaves : List (List ℕ × ℕ) → List (List ℕ)
terms_leaves items = map leaf_bytes (with_sentinels items)
