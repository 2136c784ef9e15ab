use Rattle.std.proofs.lemmas.Result.{IfOk-weaker, IfErr-weaker}
use Rattle.ats_catalog_proof.proofs.Public.{has_root}
use Rattle.ats_console.proofs.Public.{at_index}
use Rattle.ats_makers.specs.Commands.{asked_by}
use Rattle.ats_makers.proofs.CatalogSteps.{shard_done, shard_stopped}
use Rattle.ats_makers.proofs.catalogs.prove_named.Goals as goal

pub returns-in-Err-clause-stop : goal.returns-in-Err-clause-stop
returns-in-Err-clause-stop g c catalog query r is = at_index c.in-Err.ensures.stop

pub returns-clause-ok : goal.returns-clause-ok
returns-clause-ok g c =
    let H = g.H.HashKind.hash in
    let state = c.args.prover in
    let index = c.in-Ok.index in
    IfOk-weaker c.append.result _ _ (λ more proved. (
      index,
      proved,
      λ catalog query r is.
          shard_done H catalog (asked_by H query state.algorithm r is.ranking) state.proved c.args.name.now (g.S.Shelf.told c.args.shelf.now) (g.S.Shelf.told c.index.new.shelf) index
          c.in-Ok.ensures.ok proved.proof (has_root H catalog query r state.ranking is state.proved index c.requires.left proved.root)
          (record { proved = proved.asked catalog query r is; short = proved.short }),
    )) c.append.ensures.proved

pub returns-clause-stop : goal.returns-clause-stop
returns-clause-stop g c catalog query r is =
    let H = g.H.HashKind.hash in
    let state = c.args.prover in
    IfErr-weaker c.append.result _ _
    (shard_stopped H catalog (asked_by H query state.algorithm r is.ranking) state.proved c.args.name.now (g.S.Shelf.told c.args.shelf.now) (g.S.Shelf.told c.index.new.shelf) c.in-Ok.index
    c.in-Ok.ensures.ok)
    (c.append.ensures.stop catalog query r is)
