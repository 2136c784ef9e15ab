use Rattle.ats_auditors.proofs.catalogs.begin.Goals as goal

pub returns-in-Err-clause-stop : goal.returns-in-Err-clause-stop
returns-in-Err-clause-stop g c = c.begin_stop.ensures c.args.bytes.now c.in-Err.ensures.fault
