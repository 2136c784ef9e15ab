use Rattle.std.proofs.Common.{◌≤◌, ◌<◌, ◌*◌, ap, arith}
use Rattle.std.specs.Option.{option_map}
use Rattle.ats_growth_check.specs.Strings.{part_of}
use Rattle.ats_growth_proof.specs.Inner.FirstDifference.{strings_of}
use Rattle.ats_tree.proofs.Public.{part-tree-cut}
use Rattle.ats_growth_check.proofs.Public.{turns-end, cut-left, cut-right}
use Rattle.ats_growth_proof.proofs.Ranging.{ranges-end, ranges-left, ranges-some, ranges-none}
use Rattle.ats_growth_proof.proofs.ranges.+compare_ranges.Goals as goal

pub returns-then-m-n-clause-unlike : goal.returns-then-m-n-clause-unlike
returns-then-m-n-clause-unlike g t c =
    let a = c.args in
    let whole : a.n ≤ a.m = omega arith in
    ranges-end g.H.HashKind.hash _ _ _ _ _ (turns-end a.m a.n whole) (ap (λ k. part_of a.from k a.old.now) c.if-m-n.true) c.compare_range.ensures.range.unlike

pub returns-then-m-k-clause-unlike : goal.returns-then-m-k-clause-unlike
returns-then-m-k-clause-unlike g t c =
    let a = c.args in
    let k = c.cut_of-k in
    let new = part-tree-cut a.from k.result a.n a.new.now k.ensures.power k.ensures.below k.ensures.largest c.requires.inside_new in
    ranges-left g.H.HashKind.hash _ _ _ _ _ _ _ (cut-left a.m a.n k.result k.ensures.power k.ensures.below k.ensures.largest c.if-m-k.true) new c.compare_ranges.ensures.unlike

pub returns-in-Some-clause-unlike : goal.returns-in-Some-clause-unlike
returns-in-Some-clause-unlike g t c =
    let a = c.args in
    let k = c.cut_of-k in
    let more : a.m < a.n = omega arith in
    let largest : a.m ≤ 2 * k.result = omega (arith, k.ensures.largest) in
    let old = part-tree-cut a.from k.result a.m a.old.now k.ensures.power c.if-m-k.false largest c.requires.inside_old in
    let new = part-tree-cut a.from k.result a.n a.new.now k.ensures.power k.ensures.below k.ensures.largest c.requires.inside_new in
    ranges-some g.H.HashKind.hash _ _ _ _ _ _ _ _ _ (cut-right a.m a.n k.result k.ensures.power k.ensures.largest c.if-m-k.false more) old new c.compare_ranges-2.ensures.unlike
    (strings_of c.in-Some.unlike) (ap (option_map strings_of) c.in-Some.is)

pub returns-in-None-clause-unlike : goal.returns-in-None-clause-unlike
returns-in-None-clause-unlike g t c =
    let a = c.args in
    let k = c.cut_of-k in
    let more : a.m < a.n = omega arith in
    let largest : a.m ≤ 2 * k.result = omega (arith, k.ensures.largest) in
    let old = part-tree-cut a.from k.result a.m a.old.now k.ensures.power c.if-m-k.false largest c.requires.inside_old in
    let new = part-tree-cut a.from k.result a.n a.new.now k.ensures.power k.ensures.below k.ensures.largest c.requires.inside_new in
    ranges-none g.H.HashKind.hash _ _ _ _ _ _ _ _ _ (cut-right a.m a.n k.result k.ensures.power k.ensures.largest c.if-m-k.false more) old new c.compare_ranges-2.ensures.unlike
    _ (ap (option_map strings_of) c.in-None.is) c.compare_range-in-None.ensures.range.unlike
