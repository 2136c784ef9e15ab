use Rattle.ats_grammar.proofs.Runs.{IsInRun}
use Rattle.ats_grammar.proofs.reader.Reader.digests.Given as goal

abbrev pub invariant-loop : goal.invariant-loop
invariant-loop l = IsInRun l.count l.counter l.self l.reader
