-- Byte order.
use Rattle.std.specs.Prelude.{◌≡◌, ℕ, List}
use Rattle.std.specs.Cmp.Lexicographic.{slice_cmp}
use Rattle.std.specs.Ordering.{nat_cmp}
use Rattle.std.specs.declared.cmp.Ordering.{Ordering}
use Rattle.std.specs.declared.cmp.Ordering.TheVariants.{Less}

-- byte strings are ordered by the first byte in which they differ; a string comes before every longer one that begins
-- with it
abbrev pub byte_cmp : List ℕ → List ℕ → Ordering
byte_cmp = slice_cmp nat_cmp

abbrev pub IsBelow : List ℕ → List ℕ → Type 0
IsBelow term other = byte_cmp term other ≡ Less
