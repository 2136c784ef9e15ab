use Rattle.ats_auditors.proofs.Reports.{IsReportSoFar}
use Rattle.ats_auditors.proofs.sweeping.report_of.Given as goal

-- the report on the proofs so far
abbrev pub invariant-loop-i : goal.invariant-loop-i
invariant-loop-i l = IsReportSoFar l.proofs l.verdicts l.i l.report
