use Rattle.ats_growth_check.proofs.InRange.{growth_range}
use Rattle.ats_growth_check.proofs.OneGrowth.{one_growth, one_join}
use Rattle.ats_growth_check.proofs.laws.bytes_say_one_growth.Goals as goal

pub returns : goal.returns
returns c = record { one = one_growth; range = growth_range; spelling = one_join }
