use Rattle.ats_client.proofs.VerifiedBytes.{verified, rejected}
use Rattle.ats_client.proofs.verifying.verify.Goals as goal

pub returns-clause-rows : goal.returns-clause-rows
returns-clause-rows g c =
    verified g.H.HashKind.hash c.args.root.now c.args.query.now c.args.top c.args.bytes.now c.in_ok-proof.proof c.in_ok-proof.ensures.spelled
    c.check_rows.result c.check_rows.ensures.accepts c.check_rows.ensures.headline c.check_rows.ensures.rows

pub returns-clause-fault : goal.returns-clause-fault
returns-clause-fault g c =
    rejected g.H.HashKind.hash c.args.root.now c.args.query.now c.args.top c.args.bytes.now c.in_ok-proof.proof c.in_ok-proof.ensures.spelled
    c.check_rows.result c.check_rows.ensures.fault
