-- What a step of the reader takes, and what all steps so far have taken.
use Rattle.std.specs.Prelude.{◌≡◌, ℕ, List}
use Rattle.ats_grammar.specs.declared.field_kinds.Next.{Next}
use Rattle.ats_grammar.specs.declared.field_kinds.Next.TheVariants as next
use Rattle.ats_grammar.specs.Table.{Table, Schema, number}
use Rattle.ats_grammar.specs.Front.{IsFront}

-- this is the value of the field, if it is a number
abbrev pub IsNumberOf : Next → List ℕ → ℕ → Type 0
IsNumberOf next.End field n = Unit {0}
IsNumberOf (next.Number size low high kind) field n = n ≡ number field
IsNumberOf (next.Bytes size) field n = Unit {0}

-- some whole fields were taken from the bytes, `table` is what comes after them, and `left` is left
pub record IsReached (schema : Schema) (bytes : List ℕ) (table : Table) (left : List ℕ) : Type 0 where
  pub fields : List (List ℕ)
  pub front : IsFront schema bytes fields table left
