use Rattle.std.proofs.Common.{◌∙◌, rules}
use Rattle.ats_bound.proofs.Shown.{ones}
use Rattle.ats_bound.proofs.turns.first_counts.Goals as goal

pub returns : goal.returns
returns c = c.in_ok-vec.ensures.items_if_clones_equal (search rules) ∙ ones c.args.lanes.now
