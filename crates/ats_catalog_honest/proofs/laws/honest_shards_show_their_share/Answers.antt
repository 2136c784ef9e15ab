use Rattle.ats_catalog_honest.proofs.Accepted.{share_accepted}
use Rattle.ats_catalog_honest.proofs.Within.{shows_within}
use Rattle.ats_catalog_honest.proofs.laws.honest_shards_show_their_share.Goals as goal

pub returns-clause-accepted : goal.returns-clause-accepted
returns-clause-accepted g c = λ archive query floors algorithm proof some honest. share_accepted g.H.HashKind.hash archive query floors algorithm proof some honest

pub returns-clause-within : goal.returns-clause-within
returns-clause-within g c = λ archive query floors algorithm proof honest. shows_within g.H.HashKind.hash archive query floors algorithm proof honest
