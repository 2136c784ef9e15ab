-- Beside specs/Reading: what only the functions of this room promise one another.
use Rattle.std.specs.Prelude.{◌≡◌, ℕ, List, ◌++◌, length}
use Rattle.ats_grammar.specs.declared.fault.ShapeKind.{ShapeKind}
use Rattle.ats_grammar.specs.declared.field_kinds.Next.{Next}
use Rattle.ats_grammar.specs.declared.field_kinds.Next.TheVariants as next
use Rattle.ats_grammar.specs.Front.{IsField, IsOpen, kind_of}
use Rattle.ats_grammar.specs.Reading.{IsNumberOf}

-- the bytes are the next field, with value n if it is a number, and then `after`
pub record IsTaken (next : Next) (bytes : List ℕ) (n : ℕ) (after : List ℕ) : Type 0 where
  pub field : List ℕ
  pub parts : bytes ≡ field ++ after
  pub is : IsField next field
  pub value : IsNumberOf next field n

-- the bytes do not begin with the next field
abbrev pub BeginsWithNoField : Next → List ℕ → Type 0
BeginsWithNoField next bytes = (field after : List ℕ) → bytes ≡ field ++ after → IsField next field → ⊥

-- the bytes do not begin with the next field, and `kind` is why
pub record IsRefused (next : Next) (bytes : List ℕ) (kind : ShapeKind) : Type 0 where
  pub stuck : BeginsWithNoField next bytes
  pub more : IsOpen next bytes
  pub same : kind ≡ kind_of next (length bytes)
