use Rattle.std.proofs.Common.{◌≤◌, ◌<◌, ◌∙◌, ◌++◌, ℕ, Bool, List, take, drop, ap, sym, arith, append-nil}
use Rattle.ats_tree.specs.Tree.{tree_of}
use Rattle.ats_growth_check.specs.Shape.{turns}
use Rattle.ats_growth_check.proofs.Public.{on-ok}
use Rattle.ats_growth_proof.specs.Inner.Honest.{digest_bytes}
use Rattle.ats_growth_proof.proofs.DigestBytes.{put-known, put-end, put-left, put-right}
use Rattle.ats_growth_proof.proofs.Made.{joined_2}
use Rattle.ats_growth_proof.proofs.growing.+put_digests.Goals as goal

pub returns-then-known-clause-put : goal.returns-then-known-clause-put
returns-then-known-clause-put g t c =
    let H = g.H.HashKind.hash in
    let whole : c.args.n ≤ c.args.m = omega arith in
    let tree = tree_of (take c.args.n (drop c.args.from c.args.texts.now)) in
    sym (ap (λ (known : Bool). c.args.bytes.now ++ digest_bytes H (turns c.args.m c.args.n) known tree) c.if-known.true
    ∙ ap (λ (back : List ℕ). c.args.bytes.now ++ back) (put-known H c.args.m c.args.n tree whole) ∙ append-nil c.args.bytes.now)

pub returns-then-m-n-clause-put : goal.returns-then-m-n-clause-put
returns-then-m-n-clause-put g t c =
    let H = g.H.HashKind.hash in
    let whole : c.args.n ≤ c.args.m = omega arith in
    let tree = tree_of (take c.args.n (drop c.args.from c.args.texts.now)) in
    on-ok _ _ c.put_range.result
    (λ is. is ∙ sym (ap (λ (known : Bool). c.args.bytes.now ++ digest_bytes H (turns c.args.m c.args.n) known tree) c.if-known.false
    ∙ ap (λ (back : List ℕ). c.args.bytes.now ++ back) (put-end H c.args.m c.args.n tree whole)))
    c.put_range.ensures.put

pub returns-in_ok-put_digests-clause-put : goal.returns-in_ok-put_digests-clause-put
returns-in_ok-put_digests-clause-put g t c =
    on-ok _ _ c.put_range-then-m-k.result
    (λ is. joined_2 c.args.bytes.now _ _ c.put_digests.new.bytes c.put_range-then-m-k.new.bytes _ c.in_ok-put_digests.ensures.put is
    (sym (put-left g.H.HashKind.hash c.args.texts.now c.args.from c.args.m c.args.n c.cut_of-k.result c.args.known c.cut_of-k.ensures.power c.cut_of-k.ensures.below c.cut_of-k.ensures.largest c.requires.inside c.if-m-k.true)))
    c.put_range-then-m-k.ensures.put

pub returns-in_ok-put_digests-2-clause-put : goal.returns-in_ok-put_digests-2-clause-put
returns-in_ok-put_digests-2-clause-put g t c =
    let more : c.args.m < c.args.n = omega arith in
    on-ok _ _ c.put_range-else-m-k.result
    (λ is. joined_2 c.args.bytes.now _ _ c.put_digests-else-m-k.new.bytes c.put_range-else-m-k.new.bytes _ c.in_ok-put_digests-2.ensures.put is
    (sym (put-right g.H.HashKind.hash c.args.texts.now c.args.from c.args.m c.args.n c.cut_of-k.result c.args.known c.cut_of-k.ensures.power c.cut_of-k.ensures.below c.cut_of-k.ensures.largest c.requires.inside c.if-m-k.false more)))
    c.put_range-else-m-k.ensures.put
