use Rattle.ats_doctree.proofs.Documents.{term_stands, impact_tells, none_stands}
use Rattle.ats_doctree.proofs.laws.impacts_tell_counts.Goals as goal

pub returns-clause-some : goal.returns-clause-some
returns-clause-some c = term_stands

pub returns-clause-impact : goal.returns-clause-impact
returns-clause-impact c = impact_tells

pub returns-clause-absent : goal.returns-clause-absent
returns-clause-absent c = none_stands
