use Rattle.std.proofs.Common.{◌<◌, length, rules, arith}
use Rattle.ats_console.proofs.Public.{passed, stops_at}
use Rattle.ats_makers.proofs.Ranked.{none_ranked, more_ranked, all_ranked}
use Rattle.ats_makers.proofs.catalogs.rank_all.Goals as goal

pub loop-name-init : goal.loop-name-init
loop-name-init g c = none_ranked g.H.HashKind.hash (g.S.Shelf.told c.args.shelf.now) c.args.ranking.now c.args.names.now

pub rank_named-requires : goal.rank_named-requires
rank_named-requires g c =
    let room : length c.loop-name.ranking.roots < 4096 = omega (arith, c.loop-name.invariant.many, c.loop-name-test.true, c.requires) in
    search (rules, room)

pub returns-in_err-rank_named-clause-stop : goal.returns-in_err-rank_named-clause-stop
returns-in_err-rank_named-clause-stop g c =
    passed _ c.from_residual.result c.from_residual.ensures.1
    (stops_at g.H.HashKind.hash (g.S.Shelf.told c.args.shelf.now) (g.S.Shelf.told c.loop-name.shelf) c.args.names.now c.loop-name.name-index c.name-item.result
    c.loop-name-test.true c.name-item.is c.loop-name.invariant.archives c.loop-name.invariant.so_far (g.S.Shelf.told c.rank_named.new.shelf) c.in_err-rank_named.field-0.0
    (rw c.as_str.ensures at c.in_err-rank_named.ensures.stop))

pub loop-name-preserved : goal.loop-name-preserved
loop-name-preserved g c =
    let took = rw c.as_str.ensures at c.in_ok-rank_named.ensures.ok in
    more_ranked g.H.HashKind.hash (g.S.Shelf.told c.args.shelf.now) (g.S.Shelf.told c.loop-name.shelf) c.args.ranking.now c.loop-name.ranking c.args.names.now c.loop-name.name-index
    c.name-item.result c.loop-name-test.true c.name-item.is c.loop-name.invariant (g.S.Shelf.told c.rank_named.new.shelf) c.rank_named.new.ranking took.0 took.1 took.2

pub returns-clause-ok : goal.returns-clause-ok
returns-clause-ok g c =
    all_ranked g.H.HashKind.hash (g.S.Shelf.told c.args.shelf.now) (g.S.Shelf.told c.loop-name.shelf) c.args.ranking.now c.loop-name.ranking c.args.names.now c.loop-name.name-index
    c.loop-name-test.false c.loop-name.invariant
