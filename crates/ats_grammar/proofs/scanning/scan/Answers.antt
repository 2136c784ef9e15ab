use Rattle.ats_grammar.specs.Grammar.{proof_schema}
use Rattle.ats_grammar.proofs.Fronts.{reads, refuses}
use Rattle.ats_grammar.proofs.scanning.scan.Goals as goal

pub returns-clause-read : goal.returns-clause-read
returns-clause-read c = reads proof_schema c.args.bytes.now c.read.result c.read.ensures.refused

pub returns-clause-exact : goal.returns-clause-exact
returns-clause-exact c = refuses proof_schema c.args.bytes.now c.read.result c.read.ensures.spelled c.read.ensures.refused
