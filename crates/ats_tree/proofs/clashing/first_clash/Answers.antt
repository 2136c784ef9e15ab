use Rattle.std.proofs.Common.{arith, refl}
use Rattle.ats_tree.proofs.Clashes.{whole}
use Rattle.ats_tree.proofs.Positions.{rises-increasing}
use Rattle.ats_tree.proofs.clashing.first_clash.Goals as goal

pub first_clash_in_part-requires : goal.first_clash_in_part-requires
first_clash_in_part-requires g c κs =
    let is = whole g.H.HashKind.hash c.args.n (g.R.Revealed.shown c.args.revealed.now) (g.R.Revealed.digests c.args.revealed.now) c.requires.rebuilds
    in ((refl, tt), (omega (arith, is.1), (omega arith, (rises-increasing _ c.position-facts.ensures.rising, (omega (arith, is.1), (c.requires.fit, omega (arith)))))))
