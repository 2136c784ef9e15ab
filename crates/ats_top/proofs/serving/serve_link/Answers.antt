use Rattle.ats_top.proofs.Sessions.{one_had}
use Rattle.ats_top.proofs.serving.serve_link.Goals as goal

pub returns-clause-had : goal.returns-clause-had
returns-clause-had g c =
    let came = c.in_ok-link.ensures in
    let back = c.give_back.ensures in
    one_had _ _ _ _ (g.D.Door.told c.args.door.now) (g.D.Door.told c.accept.new.self) (g.D.Door.told c.give_back.new.self)
    came.new c.serve_connection-served.ensures.served came.ok came.broken came.cause.same back.content back.broken back.faults
