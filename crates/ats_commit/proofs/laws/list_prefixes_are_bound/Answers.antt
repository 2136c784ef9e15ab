use Rattle.ats_lists.proofs.Public.{list-bound}
use Rattle.ats_commit.proofs.laws.list_prefixes_are_bound.Goals as goal

pub returns : goal.returns
returns g c format entries shown digests = list-bound g.H.HashKind.hash g.H.HashKind.sized format shown digests entries
