use Rattle.std.proofs.Common.{◌≤◌, length, rules}
use Rattle.ats_grammar.specs.Table.{End}
use Rattle.ats_grammar.proofs.Positions.{has_fault}
use Rattle.ats_grammar.proofs.reader.Reader.end.Goals as goal

pub returns-clause-refused : goal.returns-clause-refused
returns-clause-refused c =
    let some : 1 ≤ length c.args.self.now.rest.now = search rules in
    has_fault c.args.self.now End c.fault.result (record { stuck = λ field after e is. is; more = some; same = c.fault.ensures.kind }) c.fault.ensures.at
