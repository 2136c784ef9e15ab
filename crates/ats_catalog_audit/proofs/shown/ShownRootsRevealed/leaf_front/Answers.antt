use Rattle.std.proofs.Common.{◌<◌, length, sym, ap}
use Rattle.ats_tree.specs.Shown.{first_leaf}
use Rattle.ats_catalog_audit.proofs.Clashing.{left_inside, left_more}
use Rattle.ats_catalog_audit.proofs.shown.ShownRootsRevealed.leaf_front.Goals as goal

pub bounds-self-self : goal.bounds-self-self
bounds-self-self c = left_inside c.args.self.now.roots.now c.args.self.now.passed c.requires

pub returns : goal.returns
returns c =
    let s = c.args.self.now in
    let low : s.passed < length s.roots.now = left_inside s.roots.now s.passed c.requires in
    sym (ap first_leaf (left_more s.roots.now s.passed low))
