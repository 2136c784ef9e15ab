use Rattle.std.proofs.Common.{map, string_bytes, vec_items, sym, refl, inl, inr, rules}
use Rattle.ats_top.proofs.Stopped.{stop_ended, answer_ended, ask_ended, ask_counts}
use Rattle.ats_top.proofs.commands.perform.Goals as goal

pub returns-in-None-clause-ended : goal.returns-in-None-clause-ended
returns-in-None-clause-ended g c =
    stop_ended _ _ _ _ _ _ (inl (record { none = sym c.in-None.ensures; usage = refl; silent = refl; shelf = refl })) c.print_stop.ensures.prints

pub returns-in-Some-Serve-clause-ended : goal.returns-in-Some-Serve-clause-ended
returns-in-Some-Serve-clause-ended g c =
    let is = rw c.in-Some-Serve.field-0-is at c.in-Some-Serve.ensures in
    c.serve.ensures.ended (map string_bytes c.args.words.now) (g.C.Caller.told c.args.caller.now) (sym is)

pub returns-in-Some-Serve-clause-unopened : goal.returns-in-Some-Serve-clause-unopened
returns-in-Some-Serve-clause-unopened g c none =
    let is = rw c.in-Some-Serve.field-0-is at c.in-Some-Serve.ensures in
    absurd (none (_, sym is, tt))

pub returns-in-Some-Serve-clause-opened : goal.returns-in-Some-Serve-clause-opened
returns-in-Some-Serve-clause-opened g c =
    let is = rw c.in-Some-Serve.field-0-is at c.in-Some-Serve.ensures in
    elim c.serve.ensures.opened [
      | inl same ↦ inl same
      | inr opens ↦ inr (_, sym is, opens)
    ]

pub returns-in-Some-Ask-clause-ended : goal.returns-in-Some-Ask-clause-ended
returns-in-Some-Ask-clause-ended g c =
    let is = rw c.in-Some-Ask.field-0-is at c.in-Some-Ask.ensures in
    ask_ended g.H.HashKind.hash (g.S.Shelf.told c.args.shelf.now) (g.K.Sink.told c.args.out.now) (g.K.Sink.told c.print_answer.new.out)
    (g.C.Caller.told c.args.caller.now) (g.C.Caller.told c.ask.new.caller) (g.D.Door.told c.args.door.now) (map string_bytes c.args.words.now) _ (sym is)
    vec_items c.ask.result _ c.ask.ensures.ok c.ask.ensures.stop c.print_answer.ensures.prints

pub returns-in-Some-Ask-clause-caller_count : goal.returns-in-Some-Ask-clause-caller_count
returns-in-Some-Ask-clause-caller_count g c =
    ask_counts (g.C.Caller.told c.args.caller.now) (g.C.Caller.told c.ask.new.caller) (g.K.Sink.told c.args.out.now) (g.K.Sink.told c.print_answer.new.out)
    vec_items _ c.ask.result c.ask.ensures.count c.print_answer.ensures.prints

pub returns-in-Some-Ask-clause-called : goal.returns-in-Some-Ask-clause-called
returns-in-Some-Ask-clause-called g c =
    let is = rw c.in-Some-Ask.field-0-is at c.in-Some-Ask.ensures in
    elim c.ask.ensures.calls [
      | inl same ↦ inl same
      | inr called ↦ inr (_, sym is, called)
    ]

pub returns-in-Some-clause-ended : goal.returns-in-Some-clause-ended
returns-in-Some-clause-ended g c =
    answer_ended g.H.HashKind.hash (map string_bytes c.args.words.now)
    (record { shelf = g.S.Shelf.told c.args.shelf.now; sink = g.K.Sink.told c.args.out.now; caller = g.C.Caller.told c.args.caller.now; door = g.D.Door.told c.args.door.now })
    (record { shelf = g.S.Shelf.told c.answer.new.shelf; sink = g.K.Sink.told c.print_answer-in-Some.new.out; caller = g.C.Caller.told c.args.caller.now; door = g.D.Door.told c.args.door.now })
    _ (sym c.in-Some.ensures) (search rules) refl vec_items c.answer.result _ c.answer.ensures.ok c.answer.ensures.stop c.print_answer-in-Some.ensures.prints
