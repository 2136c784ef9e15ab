use Rattle.ats_auditors.proofs.Reports.{report_more, report_whole}
use Rattle.ats_auditors.proofs.sweeping.report_of.Goals as goal

pub loop-i-preserved : goal.loop-i-preserved
loop-i-preserved c =
    report_more c.args.proofs.now c.args.verdicts.now c.requires c.loop-i.i c.index-proofs-i.result c.index-verdicts-i.result c.loop-i-test.true
    c.index-proofs-i.is c.index-verdicts-i.is c.loop-i.report c.add.new.self c.loop-i.invariant
    (record { lines = c.in_ok-add.ensures.lines; refused = c.in_ok-add.ensures.refused; collides = c.in_ok-add.ensures.collides })

pub returns : goal.returns
returns c = report_whole c.args.proofs.now c.args.verdicts.now c.requires c.loop-i.i c.loop-i-test.false c.loop-i.report c.loop-i.invariant
