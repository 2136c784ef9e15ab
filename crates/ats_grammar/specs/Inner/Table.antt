-- Beside specs/Table: what only the functions of this room promise one another.
use Rattle.std.specs.Prelude.{◌≡◌, ◌⊎◌, ℕ, ◌≤◌}
use Rattle.ats_grammar.specs.declared.field_kinds.Next.{Next}
use Rattle.ats_grammar.specs.declared.field_kinds.Next.TheVariants as next
use Rattle.ats_grammar.specs.Table.{Table, End, Number, Bytes}

-- the number is in the range of the first field, if there is one; bytes of any content have no range
abbrev pub IsWithin : Table → ℕ → Type 0
IsWithin End n = ⊥
IsWithin (Number size low high kind rest) n = (low ≤ n) × (n ≤ high)
IsWithin (Bytes size rest) n = Unit {0}

-- a number has 1, 2 or 4 bytes
abbrev pub IsSized : Next → Type 0
IsSized next.End = Unit {0}
IsSized (next.Number size low high kind) = (size ≡ 1) ⊎ (size ≡ 2) ⊎ (size ≡ 4)
IsSized (next.Bytes size) = Unit {0}
