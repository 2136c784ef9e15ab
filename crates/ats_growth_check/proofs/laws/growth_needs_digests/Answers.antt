use Rattle.std.proofs.Common.{true, false}
use Rattle.ats_growth_check.proofs.laws.growth_needs_digests.Goals as goal
use Rattle.ats_growth_check.proofs.LawLemmas.{need_all, need_left, need_right}

pub returns : goal.returns
returns c = record { all_known = λ m. need_all m true; all = λ m. need_all m false; left = need_left; right = need_right }
