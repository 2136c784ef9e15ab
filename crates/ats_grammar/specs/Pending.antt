-- What the next field may be: one that finds a term present, an empty one; and that its own fault is no cut.
use Rattle.std.specs.Prelude.{ℕ}
use Rattle.ats_grammar.specs.declared.reader_state.MetPart.TheVariants.{SlotKind}
use Rattle.ats_grammar.specs.declared.reader_state.Part.{Part}
use Rattle.ats_grammar.specs.declared.reader_state.Part.TheVariants.{Met}

-- how many terms the next field may find present
abbrev pub pending : Part → ℕ
pending (Met SlotKind) = 1
pending _ = 0
