-- The bytes of a leaf of the tree of all documents.
use Rattle.std.specs.Prelude.{ℕ, List, ◌++◌}
use Rattle.std.specs.Int.{to_be_bytes, w32}

-- the number of leaves of the document's terms in 4 bytes, high byte first, and their root
abbrev pub doc_leaf_bytes : ℕ → List ℕ → List ℕ
doc_leaf_bytes leaves root = to_be_bytes w32 leaves ++ root
