use Rattle.ats_index.proofs.OnePlace.{one_place, no_place}
use Rattle.ats_index.proofs.SomePlace.{index_or_fault}
use Rattle.ats_index.proofs.laws.bad_indexes_have_one_place.Goals as goal

pub returns-clause-one : goal.returns-clause-one
returns-clause-one g c bytes at other is also = one_place g.H.HashKind.hash bytes at other is also

pub returns-clause-none : goal.returns-clause-none
returns-clause-none g c bytes at archive is spelling = no_place g.H.HashKind.hash bytes at archive is spelling

pub returns-clause-some : goal.returns-clause-some
returns-clause-some g c bytes all = index_or_fault g.H.HashKind.hash bytes all
