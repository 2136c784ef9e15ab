use Rattle.std.proofs.Common.{◌⊎◌, ◌+◌, ◌*◌, ◌<◌, [], ◌∷◌, refl, inl, inr, arith}
use Rattle.ats_grammar.specs.ReaderState.{remaining}
use Rattle.ats_grammar.proofs.Pieces.{on_part, on_whole, number_part, number_whole, number_wrong, number_fits, came_of}
use Rattle.ats_grammar.proofs.piece_position.PiecePosition.step_in_number.Goals as goal
use Rattle.ats_grammar.proofs.piece_position.PiecePosition.step_in_number.Goals.{then-from-range-via-then-from-range, then-from-range-via-else-from-range+then-number-range}

pub overflow_mul-number : goal.overflow_mul-number
overflow_mul-number c =
    let few = (came_of c.args.self.now c.args.size c.args.range.0 c.args.range.1 c.args.kind c.requires.next c.requires.sized).0 in
    omega (arith, (number_fits c.args.self.now.came c.args.self.now.number c.args.byte few c.args.self.now.small c.ranges.byte.fits).fits)

pub overflow_add-number : goal.overflow_add-number
overflow_add-number c =
    let few = (came_of c.args.self.now c.args.size c.args.range.0 c.args.range.1 c.args.kind c.requires.next c.requires.sized).0 in
    omega (arith, c.from.ensures, (number_fits c.args.self.now.came c.args.self.now.number c.args.byte few c.args.self.now.small c.ranges.byte.fits).fits)

pub returns-then-came-size-clause-on : goal.returns-then-came-size-clause-on
returns-then-came-size-clause-on c rest =
    let stand = c.args.self.now in
    on_part stand _ (c.args.byte ∷ []) rest refl (omega arith)
    (λ left value. number_part (remaining stand.state) c.args.size c.args.range.0 c.args.range.1 c.args.kind left stand.number c.args.byte _ c.requires.next (omega (arith, c.from.ensures)) value)
    (omega arith)

pub returns-then-from-range-clause-wrong : goal.returns-then-from-range-clause-wrong
returns-then-from-range-clause-wrong c bytes rest at =
    let stand = c.args.self.now in
    let last = (came_of stand c.args.size c.args.range.0 c.args.range.1 c.args.kind c.requires.next c.requires.sized).1 c.if-came-size.false in
    let out : (stand.number * 256 + c.args.byte < c.args.range.0) ⊎ (c.args.range.1 < stand.number * 256 + c.args.byte) = elim c.then-from-range.branch [
      | then-from-range-via-then-from-range w ↦ inl (omega (arith, w.if-from-range.true, c.from-2.ensures, c.from.ensures))
      | then-from-range-via-else-from-range+then-number-range w ↦ inr (omega (arith, w.if-number-range.true, c.from.ensures))
    ] in
    number_wrong bytes stand c.args.size c.args.range.0 c.args.range.1 c.args.kind c.args.byte rest c.requires.next c.requires.own last out at

pub returns-clause-on : goal.returns-clause-on
returns-clause-on c rest =
    let stand = c.args.self.now in
    let last = (came_of stand c.args.size c.args.range.0 c.args.range.1 c.args.kind c.requires.next c.requires.sized).1 c.if-came-size.false in
    on_whole stand c.pass.new.self (c.args.byte ∷ []) rest (stand.number * 256 + c.from.result)
    (λ left many value. number_whole (remaining stand.state) c.args.size c.args.range.0 c.args.range.1 c.args.kind left stand.number c.args.byte (stand.number * 256 + c.from.result) c.requires.next
    (omega (arith, c.from.ensures)) (omega (arith, many, last)) (omega (arith, c.if-from-range.false, c.from-2.ensures)) (omega (arith, c.if-number-range.false)) value)
    c.pass.ensures.part c.pass.ensures.none.0 c.pass.ensures.none.1 (omega arith)
