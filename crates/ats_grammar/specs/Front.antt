-- Fronts of fields, spellings of a schema, and the first fault of other bytes.
use Rattle.std.specs.Prelude.{◌≡◌, ◌⊎◌, ℕ, ◌<◌, ◌≤◌, nat_lt, if◌then◌else◌, List, [], ◌∷◌, ◌++◌, length}
use Rattle.std.specs.List.{concat}
use Rattle.ats_grammar.specs.declared.fault.ShapeFault.{ShapeFault}
use Rattle.ats_grammar.specs.declared.fault.ShapeKind.{ShapeKind}
use Rattle.ats_grammar.specs.declared.fault.ShapeKind.TheVariants.{Long, Cut, Trailing}
use Rattle.ats_grammar.specs.declared.field_kinds.Next.{Next}
use Rattle.ats_grammar.specs.declared.field_kinds.Next.TheVariants as next
use Rattle.ats_grammar.specs.Table.{Table, Schema, End, number, head, follow}

-- these bytes are the field: of its size, and in its range
abbrev pub IsField : Next → List ℕ → Type 0
IsField next.End field = ⊥
IsField (next.Number size low high kind) field = (length field ≡ size) × (low ≤ number field) × (number field ≤ high)
IsField (next.Bytes size) field = length field ≡ size

-- each field may come next after those before it, and `last` is the table after all of them
abbrev pub Come : List (List ℕ) → Table → Table → Type 0
Come [] table last = table ≡ last
Come (field ∷ fields) table last = IsField (head table) field × Come fields (follow table (number field)) last

-- the fields are a front of the schema, `table` is what comes after them, and the bytes are the fields joined, then
-- `left`
pub record IsFront (schema : Schema) (bytes : List ℕ) (fields : List (List ℕ)) (table : Table) (left : List ℕ) : Type 0 where
  pub come : Come fields schema.table table
  pub parts : bytes ≡ concat fields ++ left

-- the bytes are the join of a whole front, and few enough
pub record Spells (schema : Schema) (bytes : List ℕ) (fields : List (List ℕ)) : Type 0 where
  pub whole : IsFront schema bytes fields End []
  pub few : length bytes ≤ schema.limit

-- the bytes spell some fields
pub record IsSpelling (schema : Schema) (bytes : List ℕ) : Type 0 where
  pub fields : List (List ℕ)
  pub spells : Spells schema bytes fields

-- no front of the bytes has more fields
abbrev pub IsLongest : Schema → List ℕ → List (List ℕ) → Type 0
IsLongest schema bytes fields = (others : List (List ℕ)) (table : Table) (left : List ℕ) → IsFront schema bytes others table left → length others ≤ length fields

-- a field is still missing, or bytes are left after the last one
abbrev pub IsOpen : Next → List ℕ → Type 0
IsOpen next.End left = 1 ≤ length left
IsOpen (next.Number size low high kind) left = Unit {0}
IsOpen (next.Bytes size) left = Unit {0}

-- the fault if `next` should follow and this many bytes are left
abbrev pub kind_of : Next → ℕ → ShapeKind
kind_of next.End left = Trailing
kind_of (next.Number size low high kind) left = if nat_lt left size then Cut else kind
kind_of (next.Bytes size) left = Cut

pub record IsLong (schema : Schema) (bytes : List ℕ) (fault : ShapeFault) : Type 0 where
  pub many : schema.limit < length bytes
  pub at : fault.at ≡ schema.limit
  pub kind : fault.kind ≡ Long

-- the fault is right after the longest front
pub record IsFirst (schema : Schema) (bytes : List ℕ) (fault : ShapeFault) : Type 0 where
  pub few : length bytes ≤ schema.limit
  pub fields : List (List ℕ)
  pub table : Table
  pub left : List ℕ
  pub front : IsFront schema bytes fields table left
  pub longest : IsLongest schema bytes fields
  pub more : IsOpen (head table) left
  pub at : fault.at ≡ length (concat fields)
  pub kind : fault.kind ≡ kind_of (head table) (length left)

-- there are too many bytes, or the fault is right after the longest front
abbrev pub IsBad : Schema → List ℕ → ShapeFault → Type 0
IsBad schema bytes fault = IsLong schema bytes fault ⊎ IsFirst schema bytes fault
