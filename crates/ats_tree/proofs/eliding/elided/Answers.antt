use Rattle.std.proofs.Common.{◌≡◌, ◌+◌, length, arith}
use Rattle.ats_tree.proofs.Positions.{within-increasing}
use Rattle.ats_tree.proofs.eliding.elided.Goals as goal

pub elide_part-outcome-requires-clause-rising : goal.elide_part-outcome-requires-clause-rising
elide_part-outcome-requires-clause-rising g c =
    let whole : 0 + c.len.result ≡ length (g.L.Leaves.items c.args.leaves.now) = omega arith
    in rw whole (within-increasing _ _ c.requires.rising c.requires.below)
