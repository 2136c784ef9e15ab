use Rattle.std.proofs.Common.{map, string_bytes}
use Rattle.ats_top.specs.Outside.{Outside}
use Rattle.ats_top.proofs.Concluded as concluded
use Rattle.ats_top.proofs.Sound.{plan_sound}
use Rattle.ats_top.proofs.commands.run_with.Goals as goal

pub returns-clause-ran : goal.returns-clause-ran
returns-clause-ran g c =
    let done = c.perform.ensures in
    let before : Outside = record { shelf = g.S.Shelf.told c.args.shelf.now; sink = g.K.Sink.told c.args.out.now; caller = g.C.Caller.told c.args.caller.now; door = g.D.Door.told c.args.door.now } in
    let now : Outside = record { shelf = g.S.Shelf.told c.perform.new.shelf; sink = g.K.Sink.told c.perform.new.out; caller = g.C.Caller.told c.perform.new.caller; door = g.D.Door.told c.perform.new.door } in
    concluded.ran g.H.HashKind.hash (map string_bytes c.args.words.now) before now c.perform.result done.ended
    (plan_sound g.H.HashKind.hash) done.caller_count done.door_count done.called done.opened done.sink_later
