use Rattle.std.proofs.Common.{◌≤◌, below_more, rules}
use Rattle.ats_impact.specs.Rank.{times}
use Rattle.ats_bound.proofs.settling.are_all_picked.Goals as goal

pub loop-place-preserved : goal.loop-place-preserved
loop-place-preserved c =
    let here : 1 ≤ times c.loop-place.place c.args.picks.now = search rules in
    below_more _ _ c.loop-place.invariant here
