use Rattle.std.proofs.Common.{◌≡◌}
use Rattle.ats_lists.proofs.lists.Lists.of.Given as goal

abbrev pub invariant-loop-doc : goal.invariant-loop-doc
invariant-loop-doc l = l.builder ≡ (l.collection, 0, l.doc)
