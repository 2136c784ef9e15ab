use Rattle.ats_tree.proofs.LawLemmas.{elided-list_bare, elided-list_one, elided-list_cut}
use Rattle.ats_tree.proofs.laws.elided_of_places.Goals as goal

pub returns-clause-bare : goal.returns-clause-bare
returns-clause-bare g c os ds some bare = elided-list_bare g.H.HashKind.hash os ds some bare

pub returns-clause-one : goal.returns-clause-one
returns-clause-one g c d ds = elided-list_one g.H.HashKind.hash d ds

pub returns-clause-cut : goal.returns-clause-cut
returns-clause-cut g c os ds h same long short shows = elided-list_cut g.H.HashKind.hash h os ds same long short shows
