use Rattle.ats_wire.proofs.Replying.{rest_said}
use Rattle.ats_wire.proofs.asking.read_reply.Goals as goal

pub returns-in-Err-read_rest : goal.returns-in-Err-read_rest
returns-in-Err-read_rest g c =
    rest_said (g.L.Link.told c.args.link.now) (g.L.Link.told c.read_head.new.link) (g.L.Link.told c.read_rest.new.link) c.in-Ok.head.0 c.in-Ok.head.1
    c.in-Err-read_rest.fault c.in-Ok.ensures.ok c.in-Err-read_rest.ensures.err
