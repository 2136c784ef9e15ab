use Rattle.ats_honest.proofs.ShortFronts.{fronts_short}
use Rattle.ats_honest.proofs.laws.fronts_in_blocks_are_short.Goals as goal

pub returns : goal.returns
returns g c = fronts_short g.H.HashKind.hash
