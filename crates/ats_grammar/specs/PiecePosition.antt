-- The position of a reader of pieces in the bytes of a proof, and what a step does.
use Rattle.std.specs.Prelude.{◌≡◌, ℕ, ◌<◌, List, ◌++◌, length}
use Rattle.ats_grammar.specs.declared.field_kinds.Next.{Next}
use Rattle.ats_grammar.specs.declared.field_kinds.Next.TheVariants as next
use Rattle.ats_grammar.specs.declared.piece_position.PiecePosition.{PiecePosition}
use Rattle.ats_grammar.specs.Table.{head}
use Rattle.ats_grammar.specs.Grammar.{proof_schema}
use Rattle.ats_grammar.specs.ReaderState.{remaining}
use Rattle.ats_grammar.specs.Reading.{IsNumberOf, IsReached}

-- the reader is after whole fields, it has read `came` bytes of the next one, with their value if it is a number, and
-- `rest` is still to be read
pub record IsAt (bytes : List ℕ) (stand : PiecePosition) (rest : List ℕ) : Type 0 where
  pub left : List ℕ
  pub reached : IsReached proof_schema bytes (remaining stand.state) (left ++ rest)
  pub many : length left ≡ stand.came
  pub value : IsNumberOf (head (remaining stand.state)) left stand.number

-- bytes of the field are missing, or no field is expected
abbrev pub IsWaiting : Next → ℕ → Type 0
IsWaiting next.End came = came ≡ 0
IsWaiting (next.Number size low high kind) came = came < size
IsWaiting (next.Bytes size) came = came < size
