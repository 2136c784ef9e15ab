use Rattle.std.proofs.Common.{◌≡◌, length, subst, arith}
use Rattle.ats_lists.specs.Inner.Gathered.{AreNewNumbers}
use Rattle.ats_lists.proofs.LogLemmas.{one_number_more}
use Rattle.ats_lists.proofs.gathering.renumber.Goals as goal

pub loop-i-preserved : goal.loop-i-preserved
loop-i-preserved c =
    let number = c.in_ok-number.ensures.number in
    rw c.in_ok-push.ensures.items
    (one_number_more c.args.numbering.now c.args.others.now c.loop-i.numbering c.number.new.self c.loop-i.i c.loop-i.numbers.items c.term.result.now
    c.in_ok-number.field-0 c.loop-i.invariant c.in_ok-number.ensures.more number.0 number.1 c.term.ensures)

pub returns : goal.returns
returns c =
    let size : c.loop-i.i ≡ length c.args.others.now = omega (arith, c.loop-i-test.false, c.loop-i.auto.i-end, c.len-i-end.ensures) in
    subst (λ k. AreNewNumbers c.args.numbering.now c.args.others.now c.loop-i.numbering k c.loop-i.numbers.items) size c.loop-i.invariant
