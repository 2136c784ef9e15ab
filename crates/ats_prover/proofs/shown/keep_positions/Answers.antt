use Rattle.std.proofs.Common.{nat_eq, length, ap, arith}
use Rattle.std.proofs.lemmas.List.Filters.{dedup_is}
use Rattle.ats_honest.proofs.Public.{are_needed, needs_few}
use Rattle.ats_prover.proofs.shown.keep_positions.Goals as goal

pub returns-clause-needed : goal.returns-clause-needed
returns-clause-needed c =
    are_needed c.args.spots.now c.keep_all_needed.new.positions.items c.sort_unstable.new.self.items c.dedup.new.self.items c.in_ok-keep_all_needed.ensures
    c.sort_unstable.ensures.permutation c.sort_unstable.ensures.sorted (dedup_is nat_eq c.sort_unstable.new.self.items c.dedup.new.self.items c.dedup.ensures.filtered)

pub returns-clause-few : goal.returns-clause-few
returns-clause-few c =
    omega (arith, c.dedup.ensures.bound, c.sort_unstable.ensures.len, needs_few c.args.spots.now, ap length c.in_ok-keep_all_needed.ensures)
