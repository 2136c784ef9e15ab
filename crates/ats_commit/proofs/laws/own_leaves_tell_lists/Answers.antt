use Rattle.ats_commit.proofs.OwnLeaves.{leaf_tells_entry, neighbours_tell, leaf_tells_posting}
use Rattle.ats_commit.proofs.laws.own_leaves_tell_lists.Goals as goal

pub returns-clause-entry : goal.returns-clause-entry
returns-clause-entry g c archive p entry are term small there = leaf_tells_entry g.H.HashKind.hash archive are p entry term small there

pub returns-clause-absent : goal.returns-clause-absent
returns-clause-absent g c archive p lower upper term are there above below = neighbours_tell g.H.HashKind.hash archive are p lower upper term there above below

pub returns-clause-posting : goal.returns-clause-posting
returns-clause-posting g c texts term i entry are small few there = leaf_tells_posting texts are term i entry small few there
