use Rattle.ats_catalog_bytes.proofs.Passing.{ArePassed}
use Rattle.ats_catalog_bytes.proofs.view.pass_proofs.Given as goal

abbrev pub invariant-loop : goal.invariant-loop
invariant-loop l = ArePassed l.count l.counter l.fn.reader l.reader
