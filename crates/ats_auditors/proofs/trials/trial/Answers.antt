use Rattle.ats_console.proofs.Public.{passed}
use Rattle.ats_auditors.proofs.Tried.{trial_stopped, tried_ok, tried_stop}
use Rattle.ats_auditors.proofs.trials.trial.Goals as goal

pub returns-in_err-queries-clause-stop : goal.returns-in_err-queries-clause-stop
returns-in_err-queries-clause-stop g c shelf =
    let H = g.H.HashKind.hash in
    let number = c.args.number in
    passed _ c.from_residual-in_err-queries.result c.from_residual-in_err-queries.ensures.1
    (trial_stopped H number shelf c.in_err-queries.field-0.0 (c.in_err-queries.ensures.stop H))

pub returns-in_err-index-clause-stop : goal.returns-in_err-index-clause-stop
returns-in_err-index-clause-stop g c shelf =
    let H = g.H.HashKind.hash in
    let number = c.args.number in
    passed _ c.from_residual-in_err-index.result c.from_residual-in_err-index.ensures.1
    (trial_stopped H number shelf c.in_err-index.field-0.0 c.in_err-index.ensures.stop)

pub returns-clause-ok : goal.returns-clause-ok
returns-clause-ok g c shelf = tried_ok g.H.HashKind.hash c.args.number c.in_ok-queries.queries.items c.in_ok-queries.ensures.ok c.in_ok-queries.ensures.many shelf c.in_ok-index.index c.in_ok-index.ensures.ok c.as_slice.result.now c.as_slice.ensures.value c.try_to_lines-text.result c.try_to_lines-text.ensures.ok

pub returns-clause-stop : goal.returns-clause-stop
returns-clause-stop g c shelf = tried_stop g.H.HashKind.hash c.args.number c.in_ok-queries.queries.items c.in_ok-queries.ensures.ok c.in_ok-queries.ensures.many shelf c.in_ok-index.index c.in_ok-index.ensures.ok c.as_slice.result.now c.as_slice.ensures.value c.try_to_lines-text.result c.try_to_lines-text.ensures.stop
