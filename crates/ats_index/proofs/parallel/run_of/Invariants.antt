use Rattle.std.proofs.Common.{◌≡◌}
use Rattle.ats_index.proofs.parallel.run_of.Given as goal

-- the documents so far are added
abbrev pub invariant-loop-doc : goal.invariant-loop-doc
invariant-loop-doc l = l.run ≡ (l.collection, l.first, l.doc)
