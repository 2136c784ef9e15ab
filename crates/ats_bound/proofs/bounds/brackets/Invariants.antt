use Rattle.std.proofs.Common.{◌≡◌, map, take}
use Rattle.ats_bound.specs.declared.met_documents.Met.{Met}
use Rattle.ats_bound.specs.Cut.{bracket}
use Rattle.ats_bound.specs.Cursors.{shown_on}
use Rattle.ats_bound.proofs.bounds.brackets.Given as goal

abbrev pub invariant-loop-met : goal.invariant-loop-met
invariant-loop-met l = l.all.items ≡ map (λ (m : Met). bracket (shown_on l.cursors) m.doc) (take l.met-index l.known)
