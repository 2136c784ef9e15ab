use Rattle.std.proofs.Common.{◌≤◌, ◌<◌, sym, ap₂, arith}
use Rattle.ats_growth_check.specs.Shape.{need}
use Rattle.ats_growth_check.proofs.Leads.{turns-end}
use Rattle.ats_growth_check.proofs.PairLemmas.{need-left, need-right}
use Rattle.ats_growth_check.proofs.pairing.+digests_needed.Goals as goal

pub returns-then-known-clause-number : goal.returns-then-known-clause-number
returns-then-known-clause-number t c =
    let whole : c.args.n ≤ c.args.m = omega arith in
    sym (ap₂ need (turns-end c.args.m c.args.n whole) c.if-known.true)

pub returns-else-known-clause-number : goal.returns-else-known-clause-number
returns-else-known-clause-number t c =
    let whole : c.args.n ≤ c.args.m = omega arith in
    sym (ap₂ need (turns-end c.args.m c.args.n whole) c.if-known.false)

pub returns-then-m-k-clause-number : goal.returns-then-m-k-clause-number
returns-then-m-k-clause-number t c =
    omega (arith, c.digests_needed.ensures.number, need-left c.args.m c.args.n c.cut_of-k.result c.cut_of-k.ensures.power c.cut_of-k.ensures.largest c.args.known c.cut_of-k.ensures.below c.if-m-k.true)

pub returns-else-m-k-clause-number : goal.returns-else-m-k-clause-number
returns-else-m-k-clause-number t c =
    let more : c.args.m < c.args.n = omega arith in
    omega (arith, c.digests_needed-else-m-k.ensures.number, need-right c.args.m c.args.n c.cut_of-k.result c.cut_of-k.ensures.power c.cut_of-k.ensures.largest c.args.known c.if-m-k.false more)
