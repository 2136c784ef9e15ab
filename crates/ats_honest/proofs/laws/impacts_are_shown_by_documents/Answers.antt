use Rattle.ats_honest.proofs.LookedUp.{looked_up_at, looked_up_between}
use Rattle.ats_honest.proofs.laws.impacts_are_shown_by_documents.Goals as goal

pub returns-clause-at : goal.returns-clause-at
returns-clause-at c texts term doc p low is = looked_up_at texts term doc low p is

pub returns-clause-between : goal.returns-clause-between
returns-clause-between c texts term doc p low is = looked_up_between texts term doc low p is
