use Rattle.std.proofs.Common.{◌<◌, length, refl, ap, rules, arith}
use Rattle.ats_catalog_proof.specs.RankingState.{RankingState}
use Rattle.ats_plan.proofs.Public.{leads_none}
use Rattle.ats_console.proofs.Public.{passed, memory_stops}
use Rattle.ats_makers.proofs.Proved.{none_proved, more_proved, not_proved, all_proved}
use Rattle.ats_makers.proofs.catalogs.prove_all.Goals as goal

pub loop-name-init : goal.loop-name-init
loop-name-init g c = none_proved g.H.HashKind.hash c.args.ranking c.args.algorithm c.args.names.now (g.S.Shelf.told c.args.shelf.now) c.in-Ok.prover c.in-Ok.ensures

pub prove_named-requires : goal.prove_named-requires
prove_named-requires g c =
    let are = c.loop-name.invariant in
    let left : c.loop-name.prover.proved < length c.loop-name.prover.ranking.roots =
    omega (arith, are.written.many, are.many, ap (λ (s : RankingState). length s.roots) are.written.kept, c.loop-name-test.true, c.requires) in
    search (rules, left)

pub returns-in_err-prover-clause-stop : goal.returns-in_err-prover-clause-stop
returns-in_err-prover-clause-stop g c catalog query r is =
    passed _ c.from_residual.result c.from_residual.ensures.1
    (not_proved g.H.HashKind.hash c.args.ranking c.args.algorithm c.args.names.now (g.S.Shelf.told c.args.shelf.now) (g.S.Shelf.told c.loop-name.shelf) c.loop-name.prover c.loop-name.name-index
    c.name-item.result c.loop-name-test.true c.name-item.is c.loop-name.invariant (g.S.Shelf.told c.prove_named.new.shelf) c.in_err-prover.field-0.0 catalog query r
    (rw c.as_str.ensures at c.in_err-prover.ensures.stop catalog query r) is)

pub loop-name-preserved : goal.loop-name-preserved
loop-name-preserved g c =
    let made = rw c.as_str.ensures at c.in_ok-prover.ensures.ok in
    more_proved g.H.HashKind.hash c.args.ranking c.args.algorithm c.args.names.now (g.S.Shelf.told c.args.shelf.now) (g.S.Shelf.told c.loop-name.shelf) c.loop-name.prover c.loop-name.name-index
    c.name-item.result c.loop-name-test.true c.name-item.is c.loop-name.invariant (g.S.Shelf.told c.prove_named.new.shelf) c.in_ok-prover.prover made.0 made.1 made.2

pub returns-in_default-clause-stop : goal.returns-in_default-clause-stop
returns-in_default-clause-stop g c catalog query r is = memory_stops leads_none refl

pub returns-clause-ok : goal.returns-clause-ok
returns-clause-ok g c =
    all_proved g.H.HashKind.hash c.args.ranking c.args.algorithm c.args.names.now (g.S.Shelf.told c.args.shelf.now) (g.S.Shelf.told c.loop-name.shelf) c.loop-name.prover c.loop-name.name-index
    c.loop-name-test.false c.loop-name.invariant
