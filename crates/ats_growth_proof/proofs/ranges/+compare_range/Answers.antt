use Rattle.ats_tree.proofs.Public.{part-tree-cut}
use Rattle.ats_growth_proof.proofs.Ranging.{range-node}
use Rattle.ats_growth_proof.proofs.ranges.+compare_range.Goals as goal

pub returns-clause-range : goal.returns-clause-range
returns-clause-range g t c =
    let a = c.args in
    let k = c.cut_of-k in
    let old = part-tree-cut a.from k.result a.n a.old.now k.ensures.power k.ensures.below k.ensures.largest c.requires.inside_old in
    let new = part-tree-cut a.from k.result a.n a.new.now k.ensures.power k.ensures.below k.ensures.largest c.requires.inside_new in
    range-node g.H.HashKind.hash _ _ _ _ _ _ c.compare_range-left.result c.compare_range-right.result _ _ old new c.compare_range-left.ensures.range c.compare_range-right.ensures.range c.earlier.ensures c.joined.ensures.joined
