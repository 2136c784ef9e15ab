use Rattle.std.proofs.Common.{◌<◌, ◌≤◌, length, ap, arith, get_or, []}
use Rattle.std.specs.List.{zip}
use Rattle.ats_terms.proofs.Runs.{length_zipped, count_at}
use Rattle.ats_terms.proofs.counts.TermCounts.count.Goals as goal

pub index-requires : goal.index-requires
index-requires c =
    omega (arith, ap length c.self.view_is, length_zipped c.self.inside.terms c.self.inside.counts.items c.self.invariant.0, c.self.invariant.0, c.requires)

pub returns-clause-value : goal.returns-clause-value
returns-clause-value c d =
    rw (← c.self.view_is)
    (count_at c.self.inside.terms c.self.inside.counts.items c.args.i _ d c.self.invariant.0 (omega (arith, ap length c.self.view_is, length_zipped c.self.inside.terms c.self.inside.counts.items c.self.invariant.0, c.requires)) c.index.ensures)

pub returns-clause-some : goal.returns-clause-some
returns-clause-some c =
    let pairs = zip c.self.inside.terms c.self.inside.counts.items in
    let inside : c.args.i < length pairs = omega (arith, ap length c.self.view_is, c.requires) in
    let here = count_at c.self.inside.terms c.self.inside.counts.items c.args.i c.index.result.now ([], 0) c.self.invariant.0 (omega (arith, inside, length_zipped c.self.inside.terms c.self.inside.counts.items c.self.invariant.0)) c.index.ensures in
    let some : 1 ≤ (get_or pairs c.args.i ([], 0)).1 = c.self.invariant.1.some c.args.i ([], 0) inside in
    omega (arith, here, some)
