use Rattle.std.proofs.Common.{◌≡◌, map, take}
use Rattle.ats_impact.specs.Inner.Score.{counts}
use Rattle.ats_impact.proofs.scores.table.Given as goal

-- the rows of the documents so far
abbrev pub invariant-loop-document : goal.invariant-loop-document
invariant-loop-document l = l.table.items ≡ map (counts l.query) (take l.document-index l.documents)
