use Rattle.std.proofs.Common.{◌≡◌, ◌+◌, ◌∙◌, ◌++◌, ◌∷◌, inl, inr, ℕ, List, [], get_or, take, refl, ap, arith}
use Rattle.std.specs.Int.{to_be_bytes, w32}
use Rattle.std.proofs.lemmas.List.{length-take-le}
use Rattle.ats_wire.specs.Asking.{IsReplyLength}
use Rattle.ats_wire.proofs.Moved.{moves_idle}
use Rattle.ats_wire.proofs.Numbers.{number_4}
use Rattle.ats_wire.proofs.Replying.{no_kind, head_came}
use Rattle.ats_wire.proofs.asking.read_head.Goals as goal

pub returns-in-Broken-clause-err : goal.returns-in-Broken-clause-err
returns-in-Broken-clause-err g c =
    let head = c.fill.new.buf in
    let filled = c.in-Broken.ensures.fills in
    (take filled.0 head, filled.2, (4, inl (omega (arith, length-take-le filled.0 head (omega (arith, filled.1)), filled.1, c.fill.auto.buf), refl)))

pub returns-in-Ended-fill-clause-err : goal.returns-in-Ended-fill-clause-err
returns-in-Ended-fill-clause-err g c =
    let head = c.fill.new.buf in
    let n = c.read_u32-length.result in
    let number : to_be_bytes w32 n ≡ head = ap (to_be_bytes w32) c.read_u32-length.ensures ∙ number_4 head c.fill.auto.buf c.fill.ensures.small in
    let good : IsReplyLength n = (omega (arith, c.if-length-eq0.false), omega (arith, c.if-length-gt-MAX_REPLY.false)) in
    let filled = c.in-Ended-fill.ensures.fills in
    let begun = no_kind (g.L.Link.told c.args.link.now) (g.L.Link.told c.fill.new.link) (g.L.Link.told c.fill-2.new.link) head c.fill-2.new.buf n c.in-Ended-fill.field-0
    c.in-Whole.ensures.fills filled.2 filled.0 c.fill-2.auto.buf number c.fill.auto.buf good in
    (begun.0, begun.1, (begun.3, begun.2, filled.1))

pub returns-in-Broken-fill-clause-err : goal.returns-in-Broken-fill-clause-err
returns-in-Broken-fill-clause-err g c =
    let head = c.fill.new.buf in
    let n = c.read_u32-length.result in
    let number : to_be_bytes w32 n ≡ head = ap (to_be_bytes w32) c.read_u32-length.ensures ∙ number_4 head c.fill.auto.buf c.fill.ensures.small in
    let good : IsReplyLength n = (omega (arith, c.if-length-eq0.false), omega (arith, c.if-length-gt-MAX_REPLY.false)) in
    let filled = c.in-Broken-fill.ensures.fills in
    let begun = no_kind (g.L.Link.told c.args.link.now) (g.L.Link.told c.fill.new.link) (g.L.Link.told c.fill-2.new.link) head c.fill-2.new.buf n filled.0
    c.in-Whole.ensures.fills filled.2 filled.1 c.fill-2.auto.buf number c.fill.auto.buf good in
    (begun.0, begun.1, (n + 4, begun.2))

pub returns-then-not-is_kind-clause-err : goal.returns-then-not-is_kind-clause-err
returns-then-not-is_kind-clause-err g c =
    let head = c.fill.new.buf in
    let body : List ℕ = c.fill-2.new.buf in
    let n = c.read_u32-length.result in
    let number : to_be_bytes w32 n ≡ head = ap (to_be_bytes w32) c.read_u32-length.ensures ∙ number_4 head c.fill.auto.buf c.fill.ensures.small in
    let good : IsReplyLength n = (omega (arith, c.if-length-eq0.false), omega (arith, c.if-length-gt-MAX_REPLY.false)) in
    let came = head_came (g.L.Link.told c.args.link.now) (g.L.Link.told c.fill.new.link) (g.L.Link.told c.fill-2.new.link) head body n
    c.in-Whole.ensures.fills c.in-Whole-fill.ensures.fills c.fill-2.auto.buf number in
    (to_be_bytes w32 n ++ get_or body 0 0 ∷ [], moves_idle _ _ _ _ came, inr (good, (λ is. let other = c.is_kind.ensures.1 is in absurd (cc)), refl))

pub returns-clause-ok : goal.returns-clause-ok
returns-clause-ok g c =
    let head = c.fill.new.buf in
    let body : List ℕ = c.fill-2.new.buf in
    let n = c.read_u32-length.result in
    let number : to_be_bytes w32 n ≡ head = ap (to_be_bytes w32) c.read_u32-length.ensures ∙ number_4 head c.fill.auto.buf c.fill.ensures.small in
    let good : IsReplyLength n = (omega (arith, c.if-length-eq0.false), omega (arith, c.if-length-gt-MAX_REPLY.false)) in
    let came = head_came (g.L.Link.told c.args.link.now) (g.L.Link.told c.fill.new.link) (g.L.Link.told c.fill-2.new.link) head body n
    c.in-Whole.ensures.fills c.in-Whole-fill.ensures.fills c.fill-2.auto.buf number in
    (good, c.is_kind.ensures.0 (cc), came)
