use Rattle.ats_commit.proofs.HeaderLemmas.{header_in_range}
use Rattle.ats_commit.proofs.TermLemmas.{few_within}
use Rattle.ats_commit.proofs.laws.headers_are_in_range.Goals as goal

pub returns-clause-texts : goal.returns-clause-texts
returns-clause-texts g c archive utf8 within =
    header_in_range g.H.HashKind.hash g.H.HashKind.sized archive within (few_within archive.texts utf8 within)

pub returns-clause-counted : goal.returns-clause-counted
returns-clause-counted g c = header_in_range g.H.HashKind.hash g.H.HashKind.sized
