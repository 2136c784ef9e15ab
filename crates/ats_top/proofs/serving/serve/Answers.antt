use Rattle.std.proofs.Common.{inr, refl, arith}
use Rattle.ats_console.proofs.Public.{has_index}
use Rattle.ats_top.proofs.Opened.{attends_opens}
use Rattle.ats_top.proofs.ServeEnds.{attends_later, attends_door, unloaded, roomless, served}
use Rattle.ats_top.proofs.serving.serve.Goals as goal

pub returns-in-Err-clause-ended : goal.returns-in-Err-clause-ended
returns-in-Err-clause-ended g c said caller is =
    unloaded g.H.HashKind.hash said _ is caller (g.S.Shelf.told c.args.shelf.now) (g.S.Shelf.told c.index.new.shelf)
    c.in-Err.stop (g.K.Sink.told c.args.out.now) (g.K.Sink.told c.print_stop.new.out) (g.D.Door.told c.args.door.now) _ c.in-Err.ensures.stop c.print_stop.ensures.prints

pub returns-in_default-clause-ended : goal.returns-in_default-clause-ended
returns-in_default-clause-ended g c said caller is =
    roomless g.H.HashKind.hash said _ is caller (g.S.Shelf.told c.args.shelf.now) (g.S.Shelf.told c.index.new.shelf) _ c.in-Ok.ensures.ok
    (g.K.Sink.told c.args.out.now) (g.K.Sink.told c.print_stop-in_default.new.out) (g.D.Door.told c.args.door.now) _ c.print_stop-in_default.ensures.prints

pub returns-clause-ended : goal.returns-clause-ended
returns-clause-ended g c said caller is =
    served g.H.HashKind.hash said _ is caller (g.S.Shelf.told c.args.shelf.now) (g.S.Shelf.told c.index.new.shelf) _ c.in-Ok.ensures.ok
    (g.K.Sink.told c.args.out.now) (g.K.Sink.told c.attend-outcome.new.out) (g.K.Sink.told c.print_outcome.new.out)
    (g.D.Door.told c.args.door.now) (g.D.Door.told c.attend-outcome.new.door) c.attend-outcome.result _
    (c.attend-outcome.ensures _ _ (has_index c.in-Ok.ensures.ok)) c.print_outcome.ensures.prints

pub returns-clause-opened : goal.returns-clause-opened
returns-clause-opened g c =
    inr (attends_opens g.H.HashKind.hash _ _ (g.D.Door.told c.args.door.now) _ _ c.attend-outcome.result refl (c.attend-outcome.ensures _ _ (has_index c.in-Ok.ensures.ok)))

pub returns-clause-sink_later : goal.returns-clause-sink_later
returns-clause-sink_later g c =
    let rises = attends_later g.H.HashKind.hash _ _ _ _ c.attend-outcome.result (c.attend-outcome.ensures _ _ (has_index c.in-Ok.ensures.ok)) in
    omega (arith, rises, c.print_outcome.ensures.later)

pub returns-clause-door_count : goal.returns-clause-door_count
returns-clause-door_count g c =
    attends_door g.H.HashKind.hash _ _ _ _ c.attend-outcome.result (g.K.Sink.told c.print_outcome.new.out) _
    (c.attend-outcome.ensures _ _ (has_index c.in-Ok.ensures.ok)) c.print_outcome.ensures.prints
