use Rattle.std.proofs.Common.{arith}
use Rattle.ats_lists.proofs.DocumentLemmas.{nothing_yet}
use Rattle.ats_lists.proofs.building.ListsBuilder.starting_at.Goals as goal

pub invariant_of-result : goal.invariant_of-result
invariant_of-result c = (
  omega arith,
  omega (arith, c.requires, c.documents.ensures.value, c.documents.ensures.few),
  nothing_yet c.args.first c.args.collection.now c.new.result c.new.ensures,
)
