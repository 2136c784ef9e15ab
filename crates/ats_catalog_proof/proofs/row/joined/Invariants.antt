use Rattle.std.proofs.Common.{◌≡◌, ◌++◌, map, take}
use Rattle.ats_catalog_proof.specs.Inner.First.{ranked_in}
use Rattle.ats_catalog_proof.proofs.row.joined.Given as goal

-- the rows before, and those of the shard so far
abbrev pub invariant-loop-row : goal.invariant-loop-row
invariant-loop-row l = l.rows.items ≡ l.before ++ map (ranked_in l.shard) (take l.row-index l.found)
