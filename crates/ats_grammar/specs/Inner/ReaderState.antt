-- Beside specs/State: what only the functions of this room promise one another.
use Rattle.std.specs.Prelude.{◌≡◌, ◌<◌, ◌+◌, ◌*◌, ℕ}
use Rattle.ats_grammar.specs.declared.field_kinds.Next.{Next}
use Rattle.ats_grammar.specs.declared.reader_state.State.{State}
use Rattle.ats_grammar.specs.Table.{Table, head, follow, size_of}
use Rattle.ats_grammar.specs.Inner.Table.{IsSized}
use Rattle.ats_grammar.specs.Inner.Pending.{may_be_empty, HasOwnKind}
use Rattle.ats_grammar.specs.ReaderState.{remaining}

-- this is what comes next, and all after it, and the next field is not empty
abbrev pub IsBefore : State → Table → Type 0
IsBefore s table = (remaining s ≡ table) × (may_be_empty s.part ≡ 0)

-- this is the first field of the table
abbrev pub IsNext : Table → Next → Type 0
IsNext table next = (next ≡ head table) × IsSized next × HasOwnKind next

-- The state is past the first field of the table, which is this number if it is one. Fewer bytes are left, or the field
-- was empty and the next one is not.
abbrev pub IsPast : (before after : State) → Table → ℕ → Type 0
IsPast before after table number = (remaining after ≡ follow table number)
    × (may_be_empty after.part < may_be_empty before.part + 2 * size_of (head table))
