use Rattle.ats_wire.specs.Requests.{Question}
use Rattle.ats_wire.proofs.Replying.{asked}
use Rattle.ats_wire.proofs.asking.ask_once.Goals as goal

pub returns-in-Ok : goal.returns-in-Ok
returns-in-Ok g c =
    let question : Question = record { algorithm = c.args.algorithm; top = c.args.top; query = c.args.query.now } in
    let came = c.read_reply.ensures in
    asked question (g.L.Link.told c.args.link.now) (g.L.Link.told c.send_request.new.link) (g.L.Link.told c.read_reply.new.link)
    came.0 c.read_reply.result c.in-Ok.ensures.ok came.1 came.2
