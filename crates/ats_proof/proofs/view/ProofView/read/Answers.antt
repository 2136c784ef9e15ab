use Rattle.std.proofs.Common.{Ok, ap}
use Rattle.ats_grammar.proofs.Public.{no_fault}
use Rattle.ats_grammar.specs.Grammar.{proof_schema}
use Rattle.ats_proof.specs.Value.{fields_of}
use Rattle.ats_proof.proofs.Unique.{one_value}
use Rattle.ats_proof.proofs.view.ProofView.read.Goals as goal

pub returns-in-Ok-clause-accepted : goal.returns-in-Ok-clause-accepted
returns-in-Ok-clause-accepted c proof is = ap Ok (one_value c.args.bytes.now c.of.result proof c.of.ensures is)

pub returns-in-Ok-clause-exact : goal.returns-in-Ok-clause-exact
returns-in-Ok-clause-exact c fault is = let e = c.in-Ok.ensures.exact fault is in cc

pub returns-in-Err-clause-accepted : goal.returns-in-Err-clause-accepted
returns-in-Err-clause-accepted c proof is = absurd (no_fault proof_schema c.args.bytes.now c.in-Err.fault (fields_of proof) c.in-Err.ensures.refused is.spells)

pub returns-in-Err-clause-exact : goal.returns-in-Err-clause-exact
returns-in-Err-clause-exact c fault is = let e = c.in-Err.ensures.exact fault is in cc
