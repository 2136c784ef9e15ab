use Rattle.ats_catalog_honest.proofs.Accepted.{shares_accepted}
use Rattle.ats_catalog_honest.proofs.laws.honest_shares_are_accepted.Goals as goal

pub returns : goal.returns
returns g c = λ catalog query r by shares proofs shards edges owned most whole honest frames.
    shares_accepted g.H.HashKind.hash query by shares catalog proofs honest r edges owned most whole shards frames
