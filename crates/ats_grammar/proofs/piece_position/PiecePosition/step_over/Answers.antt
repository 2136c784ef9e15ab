use Rattle.std.proofs.Common.{subst}
use Rattle.ats_grammar.specs.ReaderState.{remaining}
use Rattle.ats_grammar.specs.declared.field_kinds.Next.{Next}
use Rattle.ats_grammar.specs.Table.{head}
use Rattle.ats_grammar.specs.Inner.Reading.{IsTaken, IsRefused}
use Rattle.ats_grammar.proofs.Pieces.{wrong_start, own_refusal, on_taken}
use Rattle.ats_grammar.proofs.piece_position.PiecePosition.step_over.Goals as goal

pub returns-in-Err-clause-wrong : goal.returns-in-Err-clause-wrong
returns-in-Err-clause-wrong c =
    let stand = c.args.self.now in
    let rest = c.args.rest.now in
    let is : IsRefused (head (remaining stand.state)) rest c.in-Err.kind =
    subst (λ (n : Next). IsRefused n rest c.in-Err.kind) c.requires.next c.in-Err.ensures.refused in
    λ bytes at. wrong_start bytes stand rest c.in-Err.kind at c.requires.none is
    (own_refusal c.args.next rest c.in-Err.kind c.requires.own c.requires.all c.in-Err.ensures.refused)

pub returns-in-Ok-Some-clause-on : goal.returns-in-Ok-Some-clause-on
returns-in-Ok-Some-clause-on c =
    let stand = c.args.self.now in
    let taken : IsTaken c.args.next c.args.rest.now c.in-Ok-Some.number c.in-Ok-Some.after.now = rw c.in-Ok-Some.field-0-is at c.in-Ok-Some.ensures.taken in
    let there : IsTaken (head (remaining stand.state)) c.args.rest.now c.in-Ok-Some.number c.in-Ok-Some.after.now =
    subst (λ (n : Next). IsTaken n c.args.rest.now c.in-Ok-Some.number c.in-Ok-Some.after.now) c.requires.next taken in
    on_taken stand c.pass.new.self c.args.rest.now c.in-Ok-Some.after.now c.in-Ok-Some.number c.requires.none there
    c.pass.ensures.part c.pass.ensures.none.0 c.pass.ensures.none.1 c.pass.ensures.smaller
