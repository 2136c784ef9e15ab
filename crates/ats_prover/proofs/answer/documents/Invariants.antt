use Rattle.std.proofs.Common.{◌≡◌, map, take}
use Rattle.ats_bound.specs.declared.bracket.Bracket.{Bracket}
use Rattle.ats_prover.proofs.answer.documents.Given as goal

-- the documents so far
abbrev pub invariant-loop-bracket : goal.invariant-loop-bracket
invariant-loop-bracket l = l.documents.items ≡ map (λ (b : Bracket). b.doc) (take l.bracket-index l.brackets)
