use Rattle.ats_wire.proofs.Replying.{rest_said}
use Rattle.ats_wire.proofs.PiecesRead.{proof_said}
use Rattle.ats_wire.proofs.feeding.read_reply.Goals as goal

pub returns-then-kind-eq0 : goal.returns-then-kind-eq0
returns-then-kind-eq0 g c =
    let head = c.in-Ok.ensures.ok in
    proof_said (g.L.Link.told c.args.link.now) (g.L.Link.told c.read_head.new.link) (g.L.Link.told c.read_proof.new.link) c.in-Ok.head.0 c.in-Ok.head.1
    c.read_proof.result c.if-kind-eq0.true head.0 head.2 c.read_proof.ensures.ok c.read_proof.ensures.err

pub returns-in-Err-read_rest : goal.returns-in-Err-read_rest
returns-in-Err-read_rest g c =
    rest_said (g.L.Link.told c.args.link.now) (g.L.Link.told c.read_head.new.link) (g.L.Link.told c.read_rest.new.link) c.in-Ok.head.0 c.in-Ok.head.1
    c.in-Err-read_rest.fault c.in-Ok.ensures.ok c.in-Err-read_rest.ensures.err
