use Rattle.ats_tree.proofs.KeptLemmas.{length-kept, kept-root, kept-one, kept-cut, kept-right}
use Rattle.ats_tree.proofs.laws.kept_of_strings.Goals as goal

pub returns-clause-number : goal.returns-clause-number
returns-clause-number g c ds some = length-kept g.H.HashKind.hash ds some

pub returns-clause-first : goal.returns-clause-first
returns-clause-first g c ds some = kept-root g.H.HashKind.hash ds some

pub returns-clause-one : goal.returns-clause-one
returns-clause-one g c d = kept-one g.H.HashKind.hash d

pub returns-clause-cut : goal.returns-clause-cut
returns-clause-cut g c ds h long short = kept-cut g.H.HashKind.hash ds h long short

pub returns-clause-right : goal.returns-clause-right
returns-clause-right g c ds h long short = kept-right g.H.HashKind.hash ds h long short
