use Rattle.std.proofs.Common.{nat_eq}
use Rattle.std.proofs.lemmas.List.Filters.{dedup_is}
use Rattle.ats_bound.specs.Schedule.{shown, whole_lanes}
use Rattle.ats_honest.proofs.Public.{are_met}
use Rattle.ats_prover.proofs.met.met_documents.Goals as goal

pub returns : goal.returns
returns c =
    are_met (shown (whole_lanes c.args.lanes.now) c.args.cut.now) c.in_ok-met.met.items c.sort_unstable.new.self.items c.dedup.new.self.items c.in_ok-met.ensures
    c.sort_unstable.ensures.permutation c.sort_unstable.ensures.sorted (dedup_is nat_eq c.sort_unstable.new.self.items c.dedup.new.self.items c.dedup.ensures.filtered)
