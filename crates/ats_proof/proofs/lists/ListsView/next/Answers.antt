use Rattle.std.proofs.Common.{◌-◌, ◌<◌, Some, ap, arith}
use Rattle.ats_proof.specs.Reading.{prefix_size, prefix_in}
use Rattle.ats_proof.proofs.Taking.{parts_more, rest_fits, parts_passed}
use Rattle.ats_proof.proofs.lists.ListsView.next.Goals as goal

pub invariant_of-self : goal.invariant_of-self
invariant_of-self c =
    let view = c.args.self.now in
    record { fits = rw c.cut.ensures.rest (rest_fits prefix_size view.left view.bytes.now (omega (arith, c.if-self-eq0.false)) view.fits) }

pub returns-clause-first : goal.returns-clause-first
returns-clause-first c =
    let view = c.args.self.now in
    let some : 0 < view.left = omega (arith, c.if-self-eq0.false) in
    rw (parts_more prefix_size prefix_in view.left view.bytes.now some) (ap Some c.cut.ensures.list)

pub returns-clause-passed : goal.returns-clause-passed
returns-clause-passed c =
    let view = c.args.self.now in
    parts_passed prefix_size prefix_in view.left (view.left - 1) view.bytes.now c.cut.result.1.now (omega (arith, c.if-self-eq0.false)) c.cut.ensures.rest
