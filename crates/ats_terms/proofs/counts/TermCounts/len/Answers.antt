use Rattle.std.proofs.Common.{length, ap, arith}
use Rattle.ats_terms.proofs.Runs.{length_zipped}
use Rattle.ats_terms.proofs.counts.TermCounts.len.Goals as goal

pub returns-clause-value : goal.returns-clause-value
returns-clause-value c =
    let size = ap length c.self.view_is in
    omega (arith, size, length_zipped c.self.inside.terms c.self.inside.counts.items c.self.invariant.0, c.self.invariant.0, c.len.ensures)
