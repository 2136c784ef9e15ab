use Rattle.ats_commit.proofs.OwnHeader.{own_header}
use Rattle.ats_commit.proofs.laws.own_headers_are_read.Goals as goal

pub returns : goal.returns
returns g c = own_header g.H.HashKind.hash g.H.HashKind.sized
