use Rattle.std.proofs.Common.{arith}
use Rattle.ats_lists.proofs.building.ListsBuilder.add.Goals as goal

pub invariant_of-result : goal.invariant_of-result
invariant_of-result c = (
  omega (arith, c.self.invariant.0),
  omega (arith, c.add_document.ensures.few),
  c.in_ok-gathered.ensures.after c.self.inside.first c.self.invariant.0 (rw c.in_ok-few.ensures c.self.invariant.2),
)
