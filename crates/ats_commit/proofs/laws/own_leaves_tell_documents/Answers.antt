use Rattle.ats_commit.proofs.OwnDocuments.{leaf_tells_document, leaf_tells_impact, neighbours_tell_document}
use Rattle.ats_commit.proofs.laws.own_leaves_tell_documents.Goals as goal

pub returns-clause-document : goal.returns-clause-document
returns-clause-document g c texts doc leaf are small there = leaf_tells_document g.H.HashKind.hash texts are doc leaf small there

pub returns-clause-term : goal.returns-clause-term
returns-clause-term g c texts doc p item term small there = leaf_tells_impact texts doc p item term small there

pub returns-clause-absent : goal.returns-clause-absent
returns-clause-absent g c texts doc p lower upper term there above below = neighbours_tell_document texts doc p lower upper term there above below
