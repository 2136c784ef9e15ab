use Rattle.std.proofs.Common.{◌<◌, ◌≤◌, ◌∙◌, length, arith}
use Rattle.ats_client.proofs.AnswerRows.{row_more, all_rows}
use Rattle.ats_client.proofs.verifying.answer_rows.Goals as goal

pub loop-i-preserved : goal.loop-i-preserved
loop-i-preserved c = record {
  steps = omega (arith, c.row.ensures.cost, c.loop-i.invariant.steps);
  rows = λ query left.
      let inside : c.loop-i.i < length c.args.proof.now.answer = omega (arith, c.loop-i-test.true, c.answers-i-end.ensures) in
      rw c.in_ok-push.ensures
      (row_more query c.args.proof.now c.loop-i.i _ _ inside (c.loop-i.invariant.rows query left) (c.row.ensures.row query left));
}

pub returns : goal.returns
returns c = record {
  rows = λ query left.
      let whole : length c.args.proof.now.answer ≤ c.loop-i.i = omega (arith, c.loop-i-test.false, c.answers-i-end.ensures) in
      c.loop-i.invariant.rows query left ∙ all_rows query c.args.proof.now c.loop-i.i whole;
}
