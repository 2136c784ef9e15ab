-- The memory for the marks of a check.
use Rattle.std.specs.Prelude.{ℕ, List, replicate, slice_index_or, false}
use Rattle.ats_bound.specs.declared.work.Mark.{Mark}

-- a list of marks, and how many it may have
pub record Marked : Type 0 where
  pub marks : List Mark
  pub room : ℕ

-- 0 in each number, and no row
abbrev pub zero_mark : Mark
zero_mark = record { lo = 0; held = 0; list = 0; row = false }

-- n zero marks
abbrev pub begun : ℕ → ℕ → Marked
begun n room = record { marks = replicate n zero_mark; room = room }

-- the mark at a place
abbrev pub mark_at : List Mark → ℕ → Mark
mark_at marks i = slice_index_or marks i zero_mark
