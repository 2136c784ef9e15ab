use Rattle.ats_top.proofs.OneReply.{one_status}
use Rattle.ats_top.proofs.laws.replies_decide_one_status.Goals as goal

pub returns : goal.returns
returns g c = one_status g.H.HashKind.hash
