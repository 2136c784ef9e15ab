use Rattle.ats_auditors.proofs.Archives.{AreTaken}
use Rattle.ats_auditors.proofs.catalogs.take_all.Given as goal

-- the indexes so far
abbrev pub invariant-loop-name : goal.invariant-loop-name
invariant-loop-name g l = AreTaken g.H.HashKind.hash (g.S.Shelf.told l.fn.shelf) (g.S.Shelf.told l.shelf) l.fn.audit l.audit l.names l.name-index
