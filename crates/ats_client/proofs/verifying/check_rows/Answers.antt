use Rattle.ats_client.proofs.verifying.check_rows.Goals as goal

pub returns-clause-rows : goal.returns-clause-rows
returns-clause-rows g c = c.in_ok-rows.ensures.rows c.args.query.now c.in_ok-threshold.ensures.left
