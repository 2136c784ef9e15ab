use Rattle.std.proofs.Common.{◌≡◌, ◌*◌, ℕ, List}
use Rattle.ats_client.specs.Rows.{IsLeftByCheck}
use Rattle.ats_client.proofs.AnswerRows.{rows_before}
use Rattle.ats_client.proofs.verifying.answer_rows.Given as goal

abbrev pub invariant-loop-i : goal.invariant-loop-i
invariant-loop-i l = record {
  steps : l.steps ≡ 3 * l.i;
  rows : (query : List (List ℕ × ℕ)) → IsLeftByCheck query l.proof l.work.marks l.threshold → l.rows ≡ rows_before query l.proof l.i;
}
