use Rattle.std.proofs.Common.{ℕ, List, ◌∷◌, subst, arith}
use Rattle.std.specs.List.{IsFirstAndRest}
use Rattle.ats_grammar.specs.PiecePosition.{IsAt}
use Rattle.ats_grammar.specs.Inner.PiecePosition.{IsWrong}
use Rattle.ats_grammar.proofs.piece_position.PiecePosition.step.Goals as goal

pub returns-in-Err-clause-wrong : goal.returns-in-Err-clause-wrong
returns-in-Err-clause-wrong c bytes at =
    let parts : IsFirstAndRest c.args.rest.now c.in-Some.byte.now c.in-Some.following.now = c.in-Some.ensures.cases in
    let there : IsAt bytes c.args.self.now (c.in-Some.byte.now ∷ c.in-Some.following.now) = subst (λ (xs : List ℕ). IsAt bytes c.args.self.now xs) parts.0 at in
    subst (λ (m : ℕ). IsWrong bytes c.in-Err.kind m) (omega (arith, parts.1)) (c.in-Err.ensures.wrong bytes c.in-Some.following.now there)
