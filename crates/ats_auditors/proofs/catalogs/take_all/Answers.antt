use Rattle.std.proofs.Common.{◌<◌, length, rules, arith}
use Rattle.ats_console.proofs.Public.{passed, stops_at}
use Rattle.ats_auditors.proofs.Archives.{none_taken, more_taken, all_taken, so_many}
use Rattle.ats_auditors.proofs.catalogs.take_all.Goals as goal

pub loop-name-init : goal.loop-name-init
loop-name-init g c = none_taken g.H.HashKind.hash (g.S.Shelf.told c.args.shelf.now) c.args.audit.now c.args.names.now

pub take_named-requires : goal.take_named-requires
take_named-requires g c =
    let many = so_many g.H.HashKind.hash _ _ c.args.audit.now c.loop-name.audit c.args.names.now c.loop-name.name-index c.loop-name.invariant in
    let room : length c.loop-name.audit.roots < 4096 = omega (arith, many, c.loop-name-test.true, c.requires) in
    search (rules, room)

pub returns-in_err-take_named-clause-stop : goal.returns-in_err-take_named-clause-stop
returns-in_err-take_named-clause-stop g c =
    passed _ c.from_residual.result c.from_residual.ensures.1
    (stops_at g.H.HashKind.hash (g.S.Shelf.told c.args.shelf.now) (g.S.Shelf.told c.loop-name.shelf) c.args.names.now c.loop-name.name-index c.name-item.result
    c.loop-name-test.true c.name-item.is c.loop-name.invariant.archives c.loop-name.invariant.so_far (g.S.Shelf.told c.take_named.new.shelf) c.in_err-take_named.field-0.0
    (rw c.as_str.ensures at c.in_err-take_named.ensures.stop))

pub loop-name-preserved : goal.loop-name-preserved
loop-name-preserved g c =
    let took = rw c.as_str.ensures at c.in_ok-take_named.ensures.ok in
    more_taken g.H.HashKind.hash (g.S.Shelf.told c.args.shelf.now) (g.S.Shelf.told c.loop-name.shelf) c.args.audit.now c.loop-name.audit c.args.names.now c.loop-name.name-index
    c.name-item.result c.loop-name-test.true c.name-item.is c.loop-name.invariant (g.S.Shelf.told c.take_named.new.shelf) c.take_named.new.audit took.0 took.1 took.2

pub returns-clause-ok : goal.returns-clause-ok
returns-clause-ok g c =
    all_taken g.H.HashKind.hash (g.S.Shelf.told c.args.shelf.now) (g.S.Shelf.told c.loop-name.shelf) c.args.audit.now c.loop-name.audit c.args.names.now c.loop-name.name-index
    c.loop-name-test.false c.loop-name.invariant
