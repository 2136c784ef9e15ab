use Rattle.std.proofs.Common.{◌<◌, length, ap, ◌∙◌, arith}
use Rattle.std.proofs.lemmas.List.{get_or_default}
use Rattle.std.proofs.lemmas.Slice.Zip.{get_or-zip}
use Rattle.ats_terms.proofs.Runs.{length_zipped}
use Rattle.ats_terms.proofs.counts.TermCounts.term.Goals as goal

pub get-requires : goal.get-requires
get-requires c =
    omega (arith, ap length c.self.view_is, length_zipped c.self.inside.terms c.self.inside.counts.items c.self.invariant.0, c.requires)

pub returns-clause-value : goal.returns-clause-value
returns-clause-value c d =
    let terms = c.self.inside.terms in
    let counts = c.self.inside.counts.items in
    let size = ap length c.self.view_is in
    let inside : c.args.i < length terms = omega (arith, size, length_zipped terms counts c.self.invariant.0, c.requires) in
    rw (← c.self.view_is, get_or-zip terms counts c.args.i d inside (omega (arith, inside, c.self.invariant.0)))
    (c.get.ensures.value ∙ get_or_default terms c.args.i _ d.0 inside)
