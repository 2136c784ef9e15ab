use Rattle.std.proofs.Common.{ℕ, ◌+◌, ◌*◌, ◌≤◌, List, length}
use Rattle.ats_grammar.specs.Inner.Pending.{may_be_empty}
use Rattle.ats_grammar.specs.PiecePosition.{IsAt}
use Rattle.ats_grammar.proofs.piece_position.PiecePosition.read_on.Given as goal

abbrev pub invariant-steps : goal.invariant-steps
invariant-steps l = ((bytes : List ℕ) → IsAt bytes l.fn.self l.piece → IsAt bytes l.self l.rest) × (l.self.came + length l.rest ≤ l.fn.self.came + length l.piece)

-- a field is empty only if it is a term
abbrev pub decreases-steps : goal.decreases-steps
decreases-steps l = may_be_empty l.self.state.part + 2 * length l.rest
