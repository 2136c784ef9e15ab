use Rattle.std.proofs.Common.{ℕ, List, ◌∙◌}
use Rattle.ats_bound.specs.Schedule.{whole_lanes}
use Rattle.ats_bound.specs.Inner.Scored.{AreScored}
use Rattle.ats_bound.proofs.Exactly.{scored_brackets, scored_first}
use Rattle.ats_bound.proofs.scored.Scored.new.Goals as goal

pub returns-clause-brackets : goal.returns-clause-brackets
returns-clause-brackets c = λ given first.
    let scores : List (ℕ × ℕ) = c.in_ok-scores.scores.entries in
    let are : AreScored c.in_ok-cursors.cursors c.args.rows scores c.first_met.new.best =
    scored_first (whole_lanes c.args.lanes.now) c.in_ok-cursors.cursors c.args.rows scores c.first_met.new.best c.in_ok-cursors.ensures c.requires.lanes
    c.in_ok-scores.ensures.rise c.in_ok-scores.ensures.small c.in_ok-scores.ensures.best (c.first_met.ensures.size ∙ c.in_ok-best.ensures.size) c.in_ok-scores.ensures.met in
    scored_brackets given c.in_ok-cursors.cursors c.args.rows scores c.first_met.new.best are (c.in_ok-scores.ensures.scores given first)
