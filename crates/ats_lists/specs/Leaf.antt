-- The bytes of a leaf of a list's tree.
use Rattle.std.specs.Prelude.{ℕ, List, ◌++◌}
use Rattle.std.specs.Int.{to_be_bytes, w16, w32}
use Rattle.ats_postings.specs.declared.entry.Entry.{Entry}

-- the document in 4 bytes, then the impact in 2 bytes, high byte first
abbrev pub leaf_bytes : Entry → List ℕ
leaf_bytes entry = to_be_bytes w32 entry.doc ++ to_be_bytes w16 entry.impact
