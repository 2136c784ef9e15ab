use Rattle.std.proofs.Common.{◌≡◌, ◌∙◌, inl, inr, length, sym, ap, arith}
use Rattle.std.specs.Int.{to_be_bytes, w32}
use Rattle.std.proofs.lemmas.Grind.{common_steps}
use Rattle.ats_wire.proofs.Framing.{whole_frame, unfinished}
use Rattle.ats_wire.proofs.Moved.{moves_idle}
use Rattle.ats_wire.proofs.Numbers.{number_4}
use Rattle.ats_wire.proofs.serving.read_frame.Goals as goal
use Rattle.ats_wire.proofs.serving.read_frame.Goals.{then-length-lt-MIN_FRAME-via-then-length-lt-MIN_FRAME, then-length-lt-MIN_FRAME-via-else-length-lt-MIN_FRAME+then-length-gt-MAX_FRAME}

pub returns-then-length-lt-MIN_FRAME-clause-end : goal.returns-then-length-lt-MIN_FRAME-clause-end
returns-then-length-lt-MIN_FRAME-clause-end g c =
    let head = c.fill.new.buf in
    let n = c.read_u32-length.result in
    let number : to_be_bytes w32 n ≡ head = ap (to_be_bytes w32) c.read_u32-length.ensures ∙ number_4 head c.fill.auto.buf c.fill.ensures.small in (
      head,
      moves_idle _ _ _ _ c.in-Whole.ensures.fills,
      (
        sym number,
        elim c.then-length-lt-MIN_FRAME.branch [
          | then-length-lt-MIN_FRAME-via-then-length-lt-MIN_FRAME w ↦ inl w.if-length-lt-MIN_FRAME.true
          | then-length-lt-MIN_FRAME-via-else-length-lt-MIN_FRAME+then-length-gt-MAX_FRAME w ↦ inr w.if-length-gt-MAX_FRAME.true
        ],
      ),
    )

pub returns-in-Whole-fill-clause-frame : goal.returns-in-Whole-fill-clause-frame
returns-in-Whole-fill-clause-frame g c =
    let head = c.fill.new.buf in
    let body = c.fill-2.new.buf in
    let n = c.read_u32-length.result in
    let number : to_be_bytes w32 n ≡ head = ap (to_be_bytes w32) c.read_u32-length.ensures ∙ number_4 head c.fill.auto.buf c.fill.ensures.small in
    let long : length body ≡ n = grind (arith, common_steps, c.fill-2.auto.buf, c.requires, c.if-length-gt-MAX_FRAME.false) in (
      (c.if-length-lt-MIN_FRAME.false, c.if-length-gt-MAX_FRAME.false),
      whole_frame (g.L.Link.told c.args.link.now) (g.L.Link.told c.fill.new.link) (g.L.Link.told c.fill-2.new.link) head body _ n
          c.in-Whole.ensures.fills c.in-Whole-fill.ensures.fills number long,
    )

pub returns-in-Ended-fill-clause-end : goal.returns-in-Ended-fill-clause-end
returns-in-Ended-fill-clause-end g c =
    let head = c.fill.new.buf in
    let body = c.fill-2.new.buf in
    let n = c.read_u32-length.result in
    let number : to_be_bytes w32 n ≡ head = ap (to_be_bytes w32) c.read_u32-length.ensures ∙ number_4 head c.fill.auto.buf c.fill.ensures.small in
    let long : length body ≡ n = grind (arith, common_steps, c.fill-2.auto.buf, c.requires, c.if-length-gt-MAX_FRAME.false) in
    let filled = c.in-Ended-fill.ensures.fills in
    let cut = unfinished (g.L.Link.told c.args.link.now) (g.L.Link.told c.fill.new.link) (g.L.Link.told c.fill-2.new.link) head body n c.in-Ended-fill.came
    c.in-Whole.ensures.fills filled.2 number c.fill.auto.buf (c.if-length-lt-MIN_FRAME.false, c.if-length-gt-MAX_FRAME.false) long filled.0 in
    (cut.0, cut.1, (sym cut.3, omega arith, cut.2, filled.1))

pub returns-in-Broken-fill-clause-end : goal.returns-in-Broken-fill-clause-end
returns-in-Broken-fill-clause-end g c =
    let head = c.fill.new.buf in
    let body = c.fill-2.new.buf in
    let n = c.read_u32-length.result in
    let number : to_be_bytes w32 n ≡ head = ap (to_be_bytes w32) c.read_u32-length.ensures ∙ number_4 head c.fill.auto.buf c.fill.ensures.small in
    let long : length body ≡ n = grind (arith, common_steps, c.fill-2.auto.buf, c.requires, c.if-length-gt-MAX_FRAME.false) in
    let filled = c.in-Broken-fill.ensures.fills in
    let cut = unfinished (g.L.Link.told c.args.link.now) (g.L.Link.told c.fill.new.link) (g.L.Link.told c.fill-2.new.link) head body n filled.0
    c.in-Whole.ensures.fills filled.2 number c.fill.auto.buf (c.if-length-lt-MIN_FRAME.false, c.if-length-gt-MAX_FRAME.false) long filled.1 in
    (cut.0, cut.1, cut.2)
