-- What may come next in the bytes of a proof, field by field.
use Rattle.std.specs.Prelude.{ℕ, zero, suc, ◌<◌, ◌+◌, ◌*◌, ◌/◌, ◌%◌, ◌^◌, List, [], ◌∷◌, length, get_or}
use Rattle.ats_grammar.specs.declared.fault.ShapeKind.{ShapeKind}
use Rattle.ats_grammar.specs.declared.field_kinds.Next.{Next}
use Rattle.ats_grammar.specs.declared.field_kinds.Next.TheVariants as next

-- Either nothing more comes, or a number of `size` bytes, or `size` bytes of any content. The number is from low to
-- high, its fault outside that range has this kind, and what follows depends on the number.
pub data Table : Type 0 where
  End : Table
  Number : (size low high : ℕ) → ShapeKind → (ℕ → Table) → Table
  Bytes : (size : ℕ) → Table → Table

-- what bytes of one kind must be: the table of their fields, and how many there may be
pub record Schema : Type 0 where
  pub table : Table
  pub limit : ℕ

-- the value of bytes as a number, high byte first
abbrev pub number : List ℕ → ℕ
number [] = 0
number (b ∷ bs) = b * 256 ^ length bs + number bs

-- `size` bytes with the value n, high byte first
abbrev pub spelled : (size n : ℕ) → List ℕ
spelled zero n = []
spelled (suc k) n = n / 256 ^ k ∷ spelled k (n % 256 ^ k)

-- each element is a byte
abbrev pub AreBytes : List ℕ → Type 0
AreBytes bytes = (i : ℕ) → get_or bytes i 0 < 256

-- the first field
abbrev pub head : Table → Next
head End = next.End
head (Number size low high kind rest) = next.Number size low high kind
head (Bytes size rest) = next.Bytes size

-- what comes after the first field, if it is this number
abbrev pub follow : Table → ℕ → Table
follow End n = End
follow (Number size low high kind rest) n = rest n
follow (Bytes size rest) n = rest

-- how many bytes the field has
abbrev pub size_of : Next → ℕ
size_of next.End = 0
size_of (next.Number size low high kind) = size
size_of (next.Bytes size) = size
