use Rattle.ats_growth_check.proofs.RangeLaws.{ranges_all, ranges_left, ranges_right, ranges_documents}
use Rattle.ats_growth_check.proofs.laws.ranges_are_old_documents.Goals as goal

pub returns : goal.returns
returns c = record { documents = ranges_documents; all = ranges_all; left = ranges_left; right = ranges_right }
