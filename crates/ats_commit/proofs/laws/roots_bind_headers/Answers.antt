use Rattle.ats_commit.proofs.HeaderLemmas.{header_joined, length-header}
use Rattle.ats_commit.proofs.OwnHeader.{same_format}
use Rattle.ats_commit.proofs.laws.roots_bind_headers.Goals as goal

pub returns-clause-header : goal.returns-clause-header
returns-clause-header g c = header_joined g.H.HashKind.hash

pub returns-clause-size : goal.returns-clause-size
returns-clause-size g c = length-header g.H.HashKind.hash g.H.HashKind.sized

pub returns-clause-formats : goal.returns-clause-formats
returns-clause-formats g c = same_format
