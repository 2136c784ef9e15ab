use Rattle.std.proofs.Common.{arith}
use Rattle.ats_client.proofs.Public.{few_items}
use Rattle.ats_catalog_check.proofs.KeptRows.{left_ordered}
use Rattle.ats_catalog_check.proofs.checking.check_shard.Goals as goal

pub rest-rest-requires-clause-count : goal.rest-rest-requires-clause-count
rest-rest-requires-clause-count g c = omega (arith, few_items _ c.in-Ok.proof c.in-Ok.ensures.spelled, c.check_shown.ensures.steps)

pub merge_rows-falls-requires-clause-count : goal.merge_rows-falls-requires-clause-count
merge_rows-falls-requires-clause-count g c =
    omega (arith, few_items _ c.in-Ok.proof c.in-Ok.ensures.spelled, c.check_shown.ensures.steps, c.rest-rest.ensures.steps)

pub returns-then-fell-clause-left : goal.returns-then-fell-clause-left
returns-then-fell-clause-left g c =
    let left = c.in-Ok-check_shown.ensures.left in
    record {
      proof = c.in-Ok.proof;
      checked = record {
        says = c.in-Ok.ensures.spelled;
        accepts = c.in-Ok-check_shown.ensures.holds;
        bounded = c.in-Ok-check_shown.ensures.bounded;
        ordered = left_ordered c.args.query.now c.in-Ok.proof c.check_shown.new.work.marks c.in-Ok-check_shown.threshold left;
      };
      rest_is = c.rest-rest.ensures.rest c.args.query.now left;
      kept = λ _. c.merge_rows-falls.ensures.kept c.args.query.now left;
      none = λ fell. (let is = c.if-fell.true in absurd (cc));
    }

pub returns-else-fell-clause-left : goal.returns-else-fell-clause-left
returns-else-fell-clause-left g c =
    let left = c.in-Ok-check_shown.ensures.left in
    record {
      proof = c.in-Ok.proof;
      checked = record {
        says = c.in-Ok.ensures.spelled;
        accepts = c.in-Ok-check_shown.ensures.holds;
        bounded = c.in-Ok-check_shown.ensures.bounded;
        ordered = left_ordered c.args.query.now c.in-Ok.proof c.check_shown.new.work.marks c.in-Ok-check_shown.threshold left;
      };
      rest_is = c.rest-rest.ensures.rest c.args.query.now left;
      kept = λ fell. (let is = c.if-fell.false in absurd (cc));
      none = λ fell. fell;
    }
