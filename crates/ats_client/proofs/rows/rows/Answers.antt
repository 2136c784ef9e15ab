use Rattle.std.proofs.Common.{arith, rules}
use Rattle.ats_client.proofs.rows.rows.Goals as goal

pub returns-in_err-read_row-clause-marks : goal.returns-in_err-read_row-clause-marks
returns-in_err-read_row-clause-marks c bounds lanes are = c.read_row.ensures.marks bounds lanes (c.loop-row.invariant.marks bounds lanes are)

pub loop-row-preserved : goal.loop-row-preserved
loop-row-preserved c = record {
  names = c.in_ok-read_row.ensures.names;
  noted = c.in_ok-read_row.ensures.noted;
  size = search rules;
  marks = λ bounds lanes are. c.read_row.ensures.marks bounds lanes (c.loop-row.invariant.marks bounds lanes are);
  room = search rules;
  least = omega (arith, c.read_row.ensures.least, c.loop-row.invariant.least);
  most = omega (arith, c.read_row.ensures.most, c.loop-row.invariant.most);
}
