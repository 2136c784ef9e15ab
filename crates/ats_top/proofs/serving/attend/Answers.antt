use Rattle.std.proofs.Common.{◌∙◌, [], refl, sym, inl, arith}
use Rattle.std.specs.Prelude.{codes}
use Rattle.ats_wire.proofs.Public.{err_part, ok_part}
use Rattle.ats_console.specs.Words.{ServeWords}
use Rattle.ats_top.specs.Served.{Listened}
use Rattle.ats_top.proofs.Sessions.{had_none, took_none, took_as, failed_as}
use Rattle.ats_top.proofs.Attending.{attends, served_of}
use Rattle.ats_top.proofs.serving.attend.Goals as goal

pub returns-then-is_err : goal.returns-then-is_err
returns-then-is_err g c files name has =
    let failed = sym c.is_err.ensures.value ∙ c.if-is_err.true in (
      [],
      took_none _,
      inl (record {
        archive = c.args.index.now;
        index = has;
        failed = record {
          content = err_part c.listen.result failed c.listen.ensures.err;
          broken = c.listen.ensures.broken;
          cause = err_part c.listen.result failed c.listen.ensures.cause.failed;
          later = c.listen.ensures.cause.later;
          last = c.listen.ensures.last ∙ failed;
        };
        printed = refl;
      }),
    )

pub returns-then-is_err-2 : goal.returns-then-is_err-2
returns-then-is_err-2 g c files name has =
    let opened = g.D.Door.told c.listen.new.self in
    let words : ServeWords = record { index = name; connections = c.args.connections; address = c.args.address.now } in
    let failed = sym c.is_err-2.ensures.value ∙ c.if-is_err-2.true in
    let listened : Listened c.args.address.now (g.D.Door.told c.args.door.now) opened = record {
      content = ok_part c.listen.result (sym c.is_err.ensures.value ∙ c.if-is_err.false) c.listen.ensures.ok;
      broken = c.listen.ensures.broken;
      same = ok_part c.listen.result (sym c.is_err.ensures.value ∙ c.if-is_err.false) c.listen.ensures.cause.same;
    } in (
      [],
      codes "listening\n",
      failed_as (g.K.Sink.told c.args.out.now) (g.K.Sink.told c.write_all.new.sink) _ _ c.as_bytes.ensures.value
          (err_part c.write_all.result failed c.write_all.ensures.part) (err_part c.write_all.result failed c.write_all.ensures.cause.failed)
          c.write_all.ensures.cause.later (err_part c.write_all.result failed c.write_all.ensures.last),
      record {
        sessions = [];
        served = served_of g.H.HashKind.hash files words c.args.index.now has (g.D.Door.told c.args.door.now) opened listened opened [] (had_none _ _) (omega arith);
        cut = inl (refl, refl, refl);
      },
    )

pub returns : goal.returns
returns g c files name has =
    let opened = g.D.Door.told c.listen.new.self in
    let words : ServeWords = record { index = name; connections = c.args.connections; address = c.args.address.now } in
    let done = sym c.is_err-2.ensures.value ∙ c.if-is_err-2.false in
    let listened : Listened c.args.address.now (g.D.Door.told c.args.door.now) opened = record {
      content = ok_part c.listen.result (sym c.is_err.ensures.value ∙ c.if-is_err.false) c.listen.ensures.ok;
      broken = c.listen.ensures.broken;
      same = ok_part c.listen.result (sym c.is_err.ensures.value ∙ c.if-is_err.false) c.listen.ensures.cause.same;
    } in
    attends g.H.HashKind.hash files words c.args.index.now has (g.D.Door.told c.args.door.now) opened listened
    (g.K.Sink.told c.args.out.now) (g.K.Sink.told c.write_all.new.sink) _ c.serve_links.result
    (took_as (g.K.Sink.told c.args.out.now) (g.K.Sink.told c.write_all.new.sink) _ _ c.as_bytes.ensures.value
    (ok_part c.write_all.result done c.write_all.ensures.all) (ok_part c.write_all.result done c.write_all.ensures.cause.same)) c.serve_links.ensures
