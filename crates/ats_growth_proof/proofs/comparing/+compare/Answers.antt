use Rattle.std.proofs.Common.{◌≤◌, ◌<◌, ◌-◌, ◌*◌, length, false, subst, arith}
use Rattle.ats_proof.specs.Seen.{digests_of}
use Rattle.ats_growth_check.specs.Shape.{turns, need}
use Rattle.ats_growth_proof.proofs.Compares.{compared-end, compared-left, compared-right}
use Rattle.ats_tree.proofs.Public.{part-tree-cut}
use Rattle.ats_growth_check.proofs.Public.{turns-end, cut-left, cut-right, need-left, need-right, one-left}
use Rattle.ats_growth_proof.proofs.comparing.+compare.Goals as goal

-- ---- the end of the turns

pub last_digest-digest-requires-clause-enough : goal.last_digest-digest-requires-clause-enough
last_digest-digest-requires-clause-enough g t c =
    let a = c.args in
    let whole : a.n ≤ a.m = omega arith in
    subst (λ path. need path a.known ≤ length (digests_of a.digests.now)) (turns-end a.m a.n whole) c.requires.enough

pub returns-then-m-n-clause-compared : goal.returns-then-m-n-clause-compared
returns-then-m-n-clause-compared g t c =
    let a = c.args in
    let whole : a.n ≤ a.m = omega arith in
    compared-end g.H.HashKind.hash a.known_root.now _ a.known _ _ c.last_digest-digest.result _ _ c.at_end.result c.at_end-then-m-n.result (turns-end a.m a.n whole)
    c.last_digest-digest.ensures.paired c.at_end.ensures.end c.at_end-then-m-n.ensures.end

-- ---- a left turn

pub compare-below-requires : goal.compare-below-requires
compare-below-requires g t c κs within =
    let a = c.args in
    let k = c.cut_of-k in
    let more = need-left a.m a.n k.result k.ensures.power k.ensures.largest a.known k.ensures.below c.if-m-k.true in (
      omega (arith, k.ensures.below),
      (
        within,
        (
          c.requires.some,
          (
            c.if-m-k.true,
            (
              c.requires.inside_old,
              (omega (arith, c.requires.inside_new, k.ensures.below), (omega (arith, more, c.requires.enough), omega (arith, c.requires.space, k.ensures.below))),
            ),
          ),
        ),
      ),
    )

pub next_digest-beside-requires-clause-some : goal.next_digest-beside-requires-clause-some
next_digest-beside-requires-clause-some g t c =
    let a = c.args in
    let k = c.cut_of-k in
    let more = need-left a.m a.n k.result k.ensures.power k.ensures.largest a.known k.ensures.below c.if-m-k.true in
    one-left (need (turns a.m k.result) a.known) (digests_of a.digests.now) (digests_of c.compare-below.new.digests) c.compare-below.ensures.compared.theirs.rest
    (omega (arith, more, c.requires.enough))

pub returns-then-m-k-clause-compared : goal.returns-then-m-k-clause-compared
returns-then-m-k-clause-compared g t c =
    let a = c.args in
    let k = c.cut_of-k in
    let new = part-tree-cut a.texts.from k.result a.n a.texts.new.now k.ensures.power k.ensures.below k.ensures.largest c.requires.inside_new in
    compared-left g.H.HashKind.hash a.known_root.now (turns a.m a.n) (turns a.m k.result) a.known (digests_of a.digests.now) (digests_of c.compare-below.new.digests) (digests_of c.next_digest-beside.new.digests)
    c.next_digest-beside.result c.digest_of_range-own.result _ _ _ _ c.compare-below.result c.joined.result
    (cut-left a.m a.n k.result k.ensures.power k.ensures.below k.ensures.largest c.if-m-k.true) new c.digest_of_range-own.ensures.digest c.compare-below.ensures.compared
    c.next_digest-beside.ensures.first c.next_digest-beside.ensures.passed c.joined.ensures.joined

-- ---- a right turn

pub compare-below-requires-2 : goal.compare-below-requires-2
compare-below-requires-2 g t c κs within =
    let a = c.args in
    let k = c.cut_of-k in
    let past = c.if-m-k.false in
    let more : a.m < a.n = omega arith in
    let needs = need-right a.m a.n k.result k.ensures.power k.ensures.largest a.known past more in (
      omega (arith, past, more),
      (
        within,
        (
          omega (arith, past),
          (
            omega (arith, more),
            (
              omega (arith, c.requires.inside_old, past),
              (omega (arith, c.requires.inside_new, k.ensures.below), (omega (arith, needs, c.requires.enough), omega (arith, c.requires.space, k.ensures.below))),
            ),
          ),
        ),
      ),
    )

pub next_digest-beside-requires-2-clause-some : goal.next_digest-beside-requires-2-clause-some
next_digest-beside-requires-2-clause-some g t c =
    let a = c.args in
    let k = c.cut_of-k in
    let more : a.m < a.n = omega arith in
    let needs = need-right a.m a.n k.result k.ensures.power k.ensures.largest a.known c.if-m-k.false more in
    one-left (need (turns (a.m - k.result) (a.n - k.result)) false) (digests_of a.digests.now) (digests_of c.compare-below-2.new.digests) c.compare-below-2.ensures.compared.theirs.rest
    (omega (arith, needs, c.requires.enough))

pub returns-clause-compared : goal.returns-clause-compared
returns-clause-compared g t c =
    let a = c.args in
    let k = c.cut_of-k in
    let past = c.if-m-k.false in
    let more : a.m < a.n = omega arith in
    let largest : a.m ≤ 2 * k.result = omega (arith, k.ensures.largest) in
    let old = part-tree-cut a.texts.from k.result a.m a.texts.old.now k.ensures.power past largest c.requires.inside_old in
    let new = part-tree-cut a.texts.from k.result a.n a.texts.new.now k.ensures.power k.ensures.below k.ensures.largest c.requires.inside_new in
    compared-right g.H.HashKind.hash a.known_root.now (turns a.m a.n) (turns (a.m - k.result) (a.n - k.result)) a.known (digests_of a.digests.now) (digests_of c.compare-below-2.new.digests)
    (digests_of c.next_digest-beside-2.new.digests) c.next_digest-beside-2.result c.digest_of_range-old_own.result c.digest_of_range-new_own.result _ _ _ _ _ _ c.compare-below-2.result c.after.result c.after-2.result
    (cut-right a.m a.n k.result k.ensures.power k.ensures.largest past more) old new c.digest_of_range-old_own.ensures.digest c.digest_of_range-new_own.ensures.digest
    c.compare-below-2.ensures.compared c.next_digest-beside-2.ensures.first c.next_digest-beside-2.ensures.passed c.after.ensures.joined c.after-2.ensures.joined
