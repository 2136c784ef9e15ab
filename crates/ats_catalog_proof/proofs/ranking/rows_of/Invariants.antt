use Rattle.std.proofs.Common.{◌≡◌, nat_eq, take}
use Rattle.std.specs.List.{count_by}
use Rattle.ats_catalog_honest.specs.Ranking.{Ranked}
use Rattle.ats_catalog_proof.proofs.ranking.rows_of.Given as goal

-- those among the rows so far
abbrev pub invariant-loop-row : goal.invariant-loop-row
invariant-loop-row l = l.found ≡ count_by (λ (one : Ranked). nat_eq one.shard l.shard) (take l.row-index l.rows)
