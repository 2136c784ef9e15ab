use Rattle.std.proofs.Common.{arith}
use Rattle.ats_growth_proof.proofs.Prefixes.{prefix_of_all}
use Rattle.ats_growth_proof.proofs.growing.first_apart.Goals as goal

pub returns-clause-none : goal.returns-clause-none
returns-clause-none c =
    prefix_of_all c.args.old.now c.args.new.now (λ i less. c.loop-doc.invariant i (omega (arith, c.documents-doc-end.ensures.value, c.loop-doc-test.false)))
