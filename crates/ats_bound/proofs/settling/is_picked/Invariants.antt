use Rattle.std.proofs.Common.{◌≡◌, take}
use Rattle.ats_impact.specs.Rank.{times}
use Rattle.ats_bound.proofs.settling.is_picked.Given as goal

abbrev pub invariant-loop-pick : goal.invariant-loop-pick
invariant-loop-pick l = times l.place (take l.pick-index l.picks) ≡ 0
