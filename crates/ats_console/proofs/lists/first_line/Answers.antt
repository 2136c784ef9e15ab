use Rattle.std.proofs.Common.{arith}
use Rattle.ats_console.proofs.ListLines.{one_alone, cut_at}
use Rattle.ats_console.proofs.lists.first_line.Goals.{then-bytes-test+else-bytes-at-ne10, else-bytes-test}
use Rattle.ats_console.proofs.lists.first_line.Goals as goal

pub returns-then-at-bytes-clause-lines : goal.returns-then-at-bytes-clause-lines
returns-then-at-bytes-clause-lines c = one_alone c.args.bytes.now c.bytes.at c.requires c.if-at-bytes.true c.bytes.invariant.1

pub returns-clause-lines : goal.returns-clause-lines
returns-clause-lines c = elim c.bytes-test.branch [
  | then-bytes-test+else-bytes-at-ne10 w ↦ cut_at c.args.bytes.now c.bytes.at c.bytes.invariant.1 w.bytes-test.true w.if-bytes-at-ne10.false
  | else-bytes-test w ↦
      let past = w.bytes-test.false in
      let within = c.bytes.invariant.0 in
      absurd (c.if-at-bytes.false (omega (arith, past, within)))
]
