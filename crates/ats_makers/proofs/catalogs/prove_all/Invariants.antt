use Rattle.ats_makers.proofs.Proved.{AreProvedSo}
use Rattle.ats_makers.proofs.catalogs.prove_all.Given as goal

-- the proofs so far
abbrev pub invariant-loop-name : goal.invariant-loop-name
invariant-loop-name g l =
    AreProvedSo g.H.HashKind.hash l.fn.ranking l.fn.algorithm l.names (g.S.Shelf.told l.fn.shelf) (g.S.Shelf.told l.shelf) l.prover l.name-index
