use Rattle.std.proofs.Common.{◌≤◌, ◌+◌, ◌-◌, refl, sym, subst, arith}
use Rattle.ats_grammar.specs.ReaderState.{remaining}
use Rattle.ats_grammar.specs.Table.{size_of}
use Rattle.ats_grammar.proofs.Pieces.{on_part, on_whole, bytes_part, bytes_whole, one_or_more}
use Rattle.ats_grammar.proofs.piece_position.PiecePosition.step_in_bytes.Goals as goal

pub invariant_of-self : goal.invariant_of-self
invariant_of-self c = record {
  inside = subst (λ n. c.args.self.now.came + c.args.many ≤ size_of n - 1) (sym c.requires.next) (omega (arith, c.if-came-size.true));
  small = omega (arith, one_or_more (c.args.self.now.came + c.args.many));
}

pub returns-then-came-size : goal.returns-then-came-size
returns-then-came-size c part rest many =
    let stand = c.args.self.now in
    on_part stand _ part rest refl (omega (arith, many))
    (λ left value. bytes_part (remaining stand.state) c.args.size left part 0 c.requires.next) (omega (arith, many, c.requires.some))

pub returns : goal.returns
returns c part rest many =
    let stand = c.args.self.now in
    on_whole stand c.pass.new.self part rest 0
    (λ left came value. bytes_whole (remaining stand.state) c.args.size left part c.requires.next (omega (arith, many, came, c.requires.within, c.if-came-size.false)))
    c.pass.ensures.part c.pass.ensures.none.0 c.pass.ensures.none.1 (omega (arith, many, c.requires.some))
