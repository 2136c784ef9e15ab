use Rattle.ats_auditors.proofs.GatherSteps.{AreSoFar}
use Rattle.ats_auditors.proofs.gathering.gather_all.Given as goal

-- the proofs so far
abbrev pub invariant-loop-entry : goal.invariant-loop-entry
invariant-loop-entry g l = AreSoFar (g.S.Shelf.told l.fn.shelf) (g.S.Shelf.told l.shelf) l.entries l.entry-index l.proofs.items l.total
