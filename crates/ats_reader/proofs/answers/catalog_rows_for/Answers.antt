use Rattle.std.proofs.Common.{arith}
use Rattle.sha2.specs.Sha256.{sha256}
use Rattle.ats_reader.proofs.FewRows.{few_rows}
use Rattle.ats_reader.proofs.answers.catalog_rows_for.Goals as goal

-- the rows are no more than are asked for, and there is room for these
pub returns-in-Ok-clause-few : goal.returns-in-Ok-clause-few
returns-in-Ok-clause-few c =
    omega (arith, c.in_ok-query.ensures.asked.fits, c.in_ok-query.ensures.query.1, few_rows sha256 _ _ _ _ _ c.in-Ok.ensures.rows)
