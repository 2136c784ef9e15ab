use Rattle.std.proofs.Common.{sym, ap, arith}
use Rattle.ats_tree.specs.Shown.{first_position}
use Rattle.ats_catalog_audit.proofs.Clashing.{left_more, left_rise, none_left}
use Rattle.ats_catalog_audit.proofs.shown.ShownRootsRevealed.position.Goals as goal

pub returns-then-self-clause-first : goal.returns-then-self-clause-first
returns-then-self-clause-first c =
    let s = c.args.self.now in sym (ap first_position (none_left s.roots.now s.passed (omega (arith, c.if-self.true))))

pub returns-then-self-clause-rising : goal.returns-then-self-clause-rising
returns-then-self-clause-rising c = left_rise c.args.self.now.roots.now c.args.self.now.passed

pub returns-clause-first : goal.returns-clause-first
returns-clause-first c =
    let s = c.args.self.now in sym (ap first_position (left_more s.roots.now s.passed (omega (arith, c.if-self.false))))

pub returns-clause-rising : goal.returns-clause-rising
returns-clause-rising c = left_rise c.args.self.now.roots.now c.args.self.now.passed
