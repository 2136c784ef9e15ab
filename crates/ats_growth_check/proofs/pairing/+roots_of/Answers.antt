use Rattle.std.proofs.Common.{◌≡◌, ◌≤◌, ◌<◌, ◌-◌, Bool, false, subst, sym, ap₂, arith, rules}
use Rattle.ats_proof.specs.Seen.{digests_of}
use Rattle.ats_growth_check.specs.Inner.Paired.{ArePaired}
use Rattle.ats_growth_check.specs.Shape.{turns, need}
use Rattle.ats_growth_check.proofs.Leads.{turns-end}
use Rattle.ats_growth_check.proofs.PairLemmas.{cut-left, cut-right, length-left, length-right, need-left, need-right, one-left, paired-known, paired-end, paired-left, paired-right}
use Rattle.ats_growth_check.proofs.pairing.+roots_of.Goals as goal

-- all leaves are old
pub returns-then-known-clause-paired : goal.returns-then-known-clause-paired
returns-then-known-clause-paired g t c =
    let whole : c.args.n ≤ c.args.m = omega arith in
    subst (λ (known : Bool). ArePaired g.H.HashKind.hash c.args.root.now (turns c.args.m c.args.n) known (digests_of c.args.digests.now) c.args.root.now c.args.root.now (digests_of c.args.digests.now))
    (sym c.if-known.true)
    (paired-known g.H.HashKind.hash c.args.root.now (turns c.args.m c.args.n) (digests_of c.args.digests.now) (turns-end c.args.m c.args.n whole))

pub next_digest-digest-requires-clause-some : goal.next_digest-digest-requires-clause-some
next_digest-digest-requires-clause-some g t c =
    let whole : c.args.n ≤ c.args.m = omega arith in
    let one : need (turns c.args.m c.args.n) c.args.known ≡ 1 = ap₂ need (turns-end c.args.m c.args.n whole) c.if-known.false in
    omega (arith, one, c.requires.enough)

pub returns-then-m-n-clause-paired : goal.returns-then-m-n-clause-paired
returns-then-m-n-clause-paired g t c =
    let whole : c.args.n ≤ c.args.m = omega arith in
    subst (λ (known : Bool). ArePaired g.H.HashKind.hash c.args.root.now (turns c.args.m c.args.n) known (digests_of c.args.digests.now) c.next_digest-digest.result c.next_digest-digest.result (digests_of c.next_digest-digest.new.digests))
    (sym c.if-known.false)
    (paired-end g.H.HashKind.hash c.args.root.now (turns c.args.m c.args.n) (digests_of c.args.digests.now) (digests_of c.next_digest-digest.new.digests) c.next_digest-digest.result
    (turns-end c.args.m c.args.n whole) c.next_digest-digest.ensures.first c.next_digest-digest.ensures.passed)

-- ---- a left turn

pub roots_of-left-requires : goal.roots_of-left-requires
roots_of-left-requires g t c κs within =
    let length = length-left c.args.m c.args.n c.cut_of-k.result c.cut_of-k.ensures.power c.cut_of-k.ensures.largest c.cut_of-k.ensures.below c.if-m-k.true in
    let need = need-left c.args.m c.args.n c.cut_of-k.result c.cut_of-k.ensures.power c.cut_of-k.ensures.largest c.args.known c.cut_of-k.ensures.below c.if-m-k.true in
    (omega arith, (search rules, (omega arith, (omega arith, (omega (arith, need), omega (arith, length))))))

pub next_digest-right-requires-clause-some : goal.next_digest-right-requires-clause-some
next_digest-right-requires-clause-some g t c =
    let need' = need-left c.args.m c.args.n c.cut_of-k.result c.cut_of-k.ensures.power c.cut_of-k.ensures.largest c.args.known c.cut_of-k.ensures.below c.if-m-k.true in
    one-left (need (turns c.args.m c.cut_of-k.result) c.args.known) (digests_of c.args.digests.now) (digests_of c.roots_of-left.new.digests) c.roots_of-left.ensures.paired.rest (omega (arith, need', c.requires.enough))

pub next_digest-right-requires-clause-space : goal.next_digest-right-requires-clause-space
next_digest-right-requires-clause-space g t c =
    omega (arith, length-left c.args.m c.args.n c.cut_of-k.result c.cut_of-k.ensures.power c.cut_of-k.ensures.largest c.cut_of-k.ensures.below c.if-m-k.true)

pub digest2-requires : goal.digest2-requires
digest2-requires g t c =
    omega (arith, length-left c.args.m c.args.n c.cut_of-k.result c.cut_of-k.ensures.power c.cut_of-k.ensures.largest c.cut_of-k.ensures.below c.if-m-k.true)

pub returns-then-m-k-clause-paired : goal.returns-then-m-k-clause-paired
returns-then-m-k-clause-paired g t c =
    rw c.digest2.ensures.value
    (paired-left g.H.HashKind.hash c.args.root.now (turns c.args.m c.args.n) (turns c.args.m c.cut_of-k.result) c.args.known (digests_of c.args.digests.now) (digests_of c.roots_of-left.new.digests)
    (digests_of c.next_digest-right.new.digests) c.roots_of-left.result.old c.roots_of-left.result.new c.next_digest-right.result
    (cut-left c.args.m c.args.n c.cut_of-k.result c.cut_of-k.ensures.power c.cut_of-k.ensures.below c.cut_of-k.ensures.largest c.if-m-k.true)
    c.roots_of-left.ensures.paired c.next_digest-right.ensures.first c.next_digest-right.ensures.passed)

pub returns-then-m-k-clause-cost : goal.returns-then-m-k-clause-cost
returns-then-m-k-clause-cost g t c =
    omega (arith, length-left c.args.m c.args.n c.cut_of-k.result c.cut_of-k.ensures.power c.cut_of-k.ensures.largest c.cut_of-k.ensures.below c.if-m-k.true)

-- ---- a right turn

pub roots_of-right-requires : goal.roots_of-right-requires
roots_of-right-requires g t c κs within =
    let more : c.args.m < c.args.n = omega arith in
    let length = length-right c.args.m c.args.n c.cut_of-k.result c.cut_of-k.ensures.power c.cut_of-k.ensures.largest c.if-m-k.false more in
    let need = need-right c.args.m c.args.n c.cut_of-k.result c.cut_of-k.ensures.power c.cut_of-k.ensures.largest c.args.known c.if-m-k.false more in
    (omega arith, (search rules, (omega arith, (omega arith, (omega (arith, need), omega (arith, length))))))

pub next_digest-left-requires-clause-some : goal.next_digest-left-requires-clause-some
next_digest-left-requires-clause-some g t c =
    let more : c.args.m < c.args.n = omega arith in
    let need' = need-right c.args.m c.args.n c.cut_of-k.result c.cut_of-k.ensures.power c.cut_of-k.ensures.largest c.args.known c.if-m-k.false more in
    one-left (need (turns (c.args.m - c.cut_of-k.result) (c.args.n - c.cut_of-k.result)) false) (digests_of c.args.digests.now) (digests_of c.roots_of-right.new.digests) c.roots_of-right.ensures.paired.rest (omega (arith, need', c.requires.enough))

pub next_digest-left-requires-clause-space : goal.next_digest-left-requires-clause-space
next_digest-left-requires-clause-space g t c =
    let more : c.args.m < c.args.n = omega arith in
    omega (arith, length-right c.args.m c.args.n c.cut_of-k.result c.cut_of-k.ensures.power c.cut_of-k.ensures.largest c.if-m-k.false more)

pub digest2-requires-else-m-k : goal.digest2-requires-else-m-k
digest2-requires-else-m-k g t c =
    let more : c.args.m < c.args.n = omega arith in
    omega (arith, length-right c.args.m c.args.n c.cut_of-k.result c.cut_of-k.ensures.power c.cut_of-k.ensures.largest c.if-m-k.false more)

pub digest2-requires-else-m-k-2 : goal.digest2-requires-else-m-k-2
digest2-requires-else-m-k-2 g t c =
    let more : c.args.m < c.args.n = omega arith in
    omega (arith, length-right c.args.m c.args.n c.cut_of-k.result c.cut_of-k.ensures.power c.cut_of-k.ensures.largest c.if-m-k.false more)

pub returns-else-m-k-clause-paired : goal.returns-else-m-k-clause-paired
returns-else-m-k-clause-paired g t c =
    let more : c.args.m < c.args.n = omega arith in
    rw (c.digest2-else-m-k.ensures.value, c.digest2-else-m-k-2.ensures.value)
    (paired-right g.H.HashKind.hash c.args.root.now (turns c.args.m c.args.n) (turns (c.args.m - c.cut_of-k.result) (c.args.n - c.cut_of-k.result)) c.args.known (digests_of c.args.digests.now) (digests_of c.roots_of-right.new.digests)
    (digests_of c.next_digest-left.new.digests) c.roots_of-right.result.old c.roots_of-right.result.new c.next_digest-left.result
    (cut-right c.args.m c.args.n c.cut_of-k.result c.cut_of-k.ensures.power c.cut_of-k.ensures.largest c.if-m-k.false more)
    c.roots_of-right.ensures.paired c.next_digest-left.ensures.first c.next_digest-left.ensures.passed)

pub returns-else-m-k-clause-cost : goal.returns-else-m-k-clause-cost
returns-else-m-k-clause-cost g t c =
    let more : c.args.m < c.args.n = omega arith in
    omega (arith, length-right c.args.m c.args.n c.cut_of-k.result c.cut_of-k.ensures.power c.cut_of-k.ensures.largest c.if-m-k.false more)
