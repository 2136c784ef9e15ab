-- Beside specs/Standing: what only the functions of this room promise one another.
use Rattle.std.specs.Prelude.{◌≡◌, ◌≢◌, ℕ, ◌+◌, ◌*◌, ◌<◌, ◌≤◌, List, [], length}
use Rattle.ats_grammar.specs.declared.fault.ShapeKind.{ShapeKind}
use Rattle.ats_grammar.specs.declared.fault.ShapeKind.TheVariants.{Cut}
use Rattle.ats_grammar.specs.declared.piece_position.PiecePosition.{PiecePosition}
use Rattle.ats_grammar.specs.Table.{Table, head}
use Rattle.ats_grammar.specs.Grammar.{proof_schema}
use Rattle.ats_grammar.specs.ReaderState.{remaining}
use Rattle.ats_grammar.specs.Reading.{IsReached}
use Rattle.ats_grammar.specs.Inner.Reading.{IsRefused}
use Rattle.ats_grammar.specs.Inner.Pending.{may_be_empty}
use Rattle.ats_grammar.specs.PiecePosition.{IsAt, IsWaiting}

-- a step of the reader: what it knew of the bytes it still knows, and it is closer to their end
pub record IsOn (stand : PiecePosition) (rest : List ℕ) (after : PiecePosition) (following : List ℕ) : Type 0 where
  pub at : (bytes : List ℕ) → IsAt bytes stand rest → IsAt bytes after following
  pub fewer : after.came + length following ≤ stand.came + length rest
  pub smaller : may_be_empty after.state.part + 2 * length following < may_be_empty stand.state.part + 2 * length rest

-- nothing is left to read
abbrev pub IsStill : PiecePosition → List ℕ → Type 0
IsStill stand rest = (rest ≡ []) × IsWaiting (head (remaining stand.state)) stand.came

-- after some whole fields `many` bytes are left, which do not begin with the next field, and not because bytes are
-- missing
pub record IsWrong (bytes : List ℕ) (kind : ShapeKind) (many : ℕ) : Type 0 where
  pub table : Table
  pub left : List ℕ
  pub reached : IsReached proof_schema bytes table left
  pub refused : IsRefused (head table) left kind
  pub same : length left ≡ many
  pub here : kind ≢ Cut
