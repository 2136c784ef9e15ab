use Rattle.ats_makers.proofs.Ranked.{AreRanked}
use Rattle.ats_makers.proofs.catalogs.rank_all.Given as goal

-- the indexes so far
abbrev pub invariant-loop-name : goal.invariant-loop-name
invariant-loop-name g l = AreRanked g.H.HashKind.hash (g.S.Shelf.told l.fn.shelf) (g.S.Shelf.told l.shelf) l.fn.ranking l.ranking l.names l.name-index
