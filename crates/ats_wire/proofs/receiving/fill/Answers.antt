use Rattle.std.proofs.Common.{arith}
use Rattle.std.proofs.lemmas.Grind.{common_steps}
use Rattle.ats_wire.proofs.Moved.{took_mid, moves_then, moves_read}
use Rattle.ats_wire.proofs.receiving.fill.Goals as goal

pub reads-preserved : goal.reads-preserved
reads-preserved g c =
    let done = c.reads.done in
    let n = c.in-Ok.count in
    let buf = c.reads.buf in
    let new = c.read_some.new.buf in
    let joined = took_mid done n buf new c.reads.invariant.few c.in-Ok.ensures.within in
    let step = moves_read (g.L.Link.told c.reads.link) (g.L.Link.told c.read_some.new.self) new n c.in-Ok.ensures.within (omega (arith, c.if-count-eq0.false)) c.in-Ok.ensures.bytes c.in-Ok.ensures.counted c.in-Ok.ensures.cause.same in
    record {
      few = grind (arith, common_steps, c.in-Ok.ensures.within);
      small = λ i. let h = c.type_inv.buf i in omega (arith, h);
      moved = rw joined (moves_then _ _ _ _ _ _ _ _ c.reads.invariant.moved step);
    }
