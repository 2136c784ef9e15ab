use Rattle.ats_bound.proofs.Scores.{held_or_missing}
use Rattle.ats_bound.proofs.laws.rests_are_held_or_missing.Goals as goal

pub returns : goal.returns
returns c lanes doc = held_or_missing lanes doc
