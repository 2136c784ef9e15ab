use Rattle.ats_makers.proofs.catalogs.append.Goals as goal

pub returns-in-Err-clause-stop : goal.returns-in-Err-clause-stop
returns-in-Err-clause-stop g c catalog query r is =
    c.shard_stop.ensures g.H.HashKind.hash catalog query is.ranking r c.args.index c.args.prover (c.in-Err.ensures.fault catalog query r is)
